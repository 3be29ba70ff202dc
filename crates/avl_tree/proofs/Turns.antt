-- Joining two sides by rotations, step by step.
use Rattle.std.proofs.Common.{◌≡◌, ℕ, ◌+◌, ◌<◌, List, ◌∷◌, ◌++◌, get_or, Some, Option, sym, refl, ap, ◌∙◌, subst, arith}
use Rattle.std.proofs.lemmas.List.{append_assoc}
use Rattle.indexes.specs.Laws.{Away, Apart}
use Rattle.indexes.specs.declared.entry.Entry.{Entry}
use Rattle.avl_tree.specs.declared.node.Node.{Node}
use Rattle.avl_tree.specs.Nodes.{cell, Holds, Held, Sides, Kept, Makes, Ready}
use Rattle.avl_tree.specs.Tree.{Tree, node, numbers, size, top}
use Rattle.avl_tree.proofs.Lists.{Disjoint, parts, away_parts, all_left, all_right, disjoint_sym}
use Rattle.avl_tree.specs.Turns.{turn_right, turn_left}
use Rattle.avl_tree.proofs.Cells.{held_kept}
use Rattle.avl_tree.proofs.Weighs.{rooted, node_at, read_at}

-- other sides at the same node, where nothing but `is` has changed
pub swap_left : (ns ms : List Node) (left right link : Option ℕ) (l m : Tree) (j : ℕ) (e : Entry) (r : Tree) (is : List ℕ) → Sides ns left right l j e r → Held ms link m → Kept ns ms is → Away j is → Disjoint (numbers r) is → Apart (numbers m ++ j ∷ numbers r) → size m + size r < 65536 → Sides ms link right m j e r
swap_left ns ms left right link l m j e r is s h kept off away apart small =
    record {
      lower = h;
      upper = held_kept ns ms right r is kept away s.upper;
      old = s.old;
      at = kept j off ∙ s.at;
      entry_is = s.entry_is;
      apart = apart;
      small = small;
    }

pub swap_right : (ns ms : List Node) (left right link : Option ℕ) (l : Tree) (j : ℕ) (e : Entry) (r m : Tree) (is : List ℕ) → Sides ns left right l j e r → Held ms link m → Kept ns ms is → Away j is → Disjoint (numbers l) is → Apart (numbers l ++ j ∷ numbers m) → size l + size m < 65536 → Sides ms left link l j e m
swap_right ns ms left right link l j e r m is s h kept off away apart small =
    record {
      lower = held_kept ns ms left l is kept away s.lower;
      upper = h;
      old = s.old;
      at = kept j off ∙ s.at;
      entry_is = s.entry_is;
      apart = apart;
      small = small;
    }

-- the sides of a root
pub inside : (ns : List Node) (p : Option ℕ) (a : Tree) (i : ℕ) (x : Entry) (b : Tree) (left right : Option ℕ) → left ≡ top a → right ≡ top b → Holds ns p (node a i x b) → Apart (numbers a ++ i ∷ numbers b) → size a + size b < 65536 → Sides ns left right a i x b
inside ns p a i x b left right la ra h apart small =
    record {
      lower = record { above = Some i; at = la; holds = h.1 };
      upper = record { above = Some i; at = ra; holds = h.2 };
      old = cell p a x b;
      at = h.0;
      entry_is = refl;
      apart = apart;
      small = small;
    }

-- one after another
pub kept_both : (ns ms ks : List Node) (is : List ℕ) (js : List ℕ) (all : List ℕ) → ((k : ℕ) → Away k all → Away k is) → ((k : ℕ) → Away k all → Away k js) → Kept ns ms is → Kept ms ks js → Kept ns ks all
kept_both ns ms ks is js all a b one two k off = two k (b k off) ∙ one k (a k off)

pub away_left : (xs ys : List ℕ) (k : ℕ) → Away k (xs ++ ys) → Away k xs
away_left xs ys k = all_left (λ d. d ≡ k → ⊥) xs ys

pub away_right : (xs ys : List ℕ) (k : ℕ) → Away k (xs ++ ys) → Away k ys
away_right xs ys k = all_right (λ d. d ≡ k → ⊥) xs ys

module _ (ns : List Node) (left right : Option ℕ) (a : Tree) (i : ℕ) (x : Entry) (b : Tree) (j : ℕ) (e : Entry) (r : Tree) (s : Sides ns left right (node a i x b) j e r) where
  right_apart : Apart (numbers a ++ i ∷ (numbers b ++ j ∷ numbers r))
  right_apart = subst Apart (append_assoc (numbers a) (i ∷ numbers b) (j ∷ numbers r)) s.apart

  right_first : (link : Option ℕ) → link ≡ top b → Sides ns link right b j e r
  right_first link is =
      record {
        lower = record { above = Some i; at = is; holds = s.lower.holds.2 };
        upper = s.upper;
        old = s.old;
        at = s.at;
        entry_is = s.entry_is;
        apart = (parts (numbers a) i (numbers b ++ j ∷ numbers r) right_apart).second;
        small = omega (arith, s.small);
      }

  right_second : (ms : List Node) (link low : Option ℕ) → link ≡ top a → Kept ns ms (numbers b ++ j ∷ numbers r) → Held ms low (node b j e r) → Sides ms link low a i x (node b j e r)
  right_second ms link low is kept h =
      let p = parts (numbers a) i (numbers b ++ j ∷ numbers r) right_apart in
      record {
        lower = held_kept ns ms link a (numbers b ++ j ∷ numbers r) kept p.across record { above = Some i; at = is; holds = s.lower.holds.1 };
        upper = h;
        old = cell s.lower.above a x b;
        at = kept i p.off_second ∙ s.lower.holds.0;
        entry_is = refl;
        apart = right_apart;
        small = omega (arith, s.small);
      }

  right_kept : (ms ks : List Node) → Kept ns ms (numbers b ++ j ∷ numbers r) → Kept ms ks (numbers a ++ i ∷ (numbers b ++ j ∷ numbers r)) → Kept ns ks ((numbers a ++ i ∷ numbers b) ++ j ∷ numbers r)
  right_kept ms ks one two k off =
      let all = subst (Away k) (append_assoc (numbers a) (i ∷ numbers b) (j ∷ numbers r)) off in
      two k all ∙ one k (away_parts k (numbers a) i (numbers b ++ j ∷ numbers r) all).2

module _ (ns : List Node) (left right : Option ℕ) (l : Tree) (j : ℕ) (e : Entry) (b : Tree) (i : ℕ) (x : Entry) (c : Tree) (s : Sides ns left right l j e (node b i x c)) where
  left_apart : Apart ((numbers l ++ j ∷ numbers b) ++ i ∷ numbers c)
  left_apart = subst Apart (sym (append_assoc (numbers l) (j ∷ numbers b) (i ∷ numbers c))) s.apart

  left_first : (link : Option ℕ) → link ≡ top b → Sides ns left link l j e b
  left_first link is =
      record {
        lower = s.lower;
        upper = record { above = Some i; at = is; holds = s.upper.holds.1 };
        old = s.old;
        at = s.at;
        entry_is = s.entry_is;
        apart = (parts (numbers l ++ j ∷ numbers b) i (numbers c) left_apart).first;
        small = omega (arith, s.small);
      }

  left_second : (ms : List Node) (link low : Option ℕ) → link ≡ top c → Kept ns ms (numbers l ++ j ∷ numbers b) → Held ms low (node l j e b) → Sides ms low link (node l j e b) i x c
  left_second ms link low is kept h =
      let p = parts (numbers l ++ j ∷ numbers b) i (numbers c) left_apart in
      record {
        lower = h;
        upper = held_kept ns ms link c (numbers l ++ j ∷ numbers b) kept (disjoint_sym (numbers l ++ j ∷ numbers b) (numbers c) p.across) record { above = Some i; at = is; holds = s.upper.holds.2 };
        old = cell s.upper.above b x c;
        at = kept i p.off_first ∙ s.upper.holds.0;
        entry_is = refl;
        apart = left_apart;
        small = omega (arith, s.small);
      }

  left_kept : (ms ks : List Node) → Kept ns ms (numbers l ++ j ∷ numbers b) → Kept ms ks ((numbers l ++ j ∷ numbers b) ++ i ∷ numbers c) → Kept ns ks (numbers l ++ j ∷ (numbers b ++ i ∷ numbers c))
  left_kept ms ks one two k off =
      let all = subst (Away k) (sym (append_assoc (numbers l) (j ∷ numbers b) (i ∷ numbers c))) off in
      two k all ∙ one k (away_parts k (numbers l ++ j ∷ numbers b) i (numbers c) all).0

-- two functions that make the same
pub makes_by : (f g : Tree → ℕ → Entry → Tree → Tree) (ns ms : List Node) (left : Option ℕ) (j : ℕ) (right : Option ℕ) (i : ℕ) → ((l : Tree) (e : Entry) (r : Tree) → Sides ns left right l j e r → f l j e r ≡ g l j e r) → Makes f ns ms left j right i → Makes g ns ms left j right i
makes_by f g ns ms left j right i same m =
    record {
      after = λ l e r s. subst (Held ms (Some i)) (same l e r s) (m.after l e r s);
      kept = m.kept;
      same = m.same;
    }

-- a side with a root, whose node was read
pub record Left (ns : List Node) (left right : Option ℕ) (l : Tree) (j : ℕ) (e : Entry) (r : Tree) (i : ℕ) (n : Node) : Type 0 where
  pub lower : Tree
  pub entry : Entry
  pub upper : Tree
  pub is : l ≡ node lower i entry upper
  pub lefts : n.left ≡ top lower
  pub rights : n.right ≡ top upper
  pub sides : Sides ns left right (node lower i entry upper) j e r

pub open_left : (ns : List Node) (left right : Option ℕ) (l : Tree) (j : ℕ) (e : Entry) (r : Tree) (i : ℕ) (n : Node) → left ≡ Some i → n ≡ get_or ns i n → Sides ns left right l j e r → Left ns left right l j e r i n
open_left ns left right l j e r i n is read s =
    let o = rooted ns left l s.lower i n is read in
    record {
      lower = o.lower;
      entry = o.entry;
      upper = o.upper;
      is = o.is;
      lefts = ap (λ (m : Node). m.left) o.cell_is;
      rights = ap (λ (m : Node). m.right) o.cell_is;
      sides = subst (λ t. Sides ns left right t j e r) o.is s;
    }

pub record Right (ns : List Node) (left right : Option ℕ) (l : Tree) (j : ℕ) (e : Entry) (r : Tree) (i : ℕ) (n : Node) : Type 0 where
  pub lower : Tree
  pub entry : Entry
  pub upper : Tree
  pub is : r ≡ node lower i entry upper
  pub lefts : n.left ≡ top lower
  pub rights : n.right ≡ top upper
  pub sides : Sides ns left right l j e (node lower i entry upper)

pub open_right : (ns : List Node) (left right : Option ℕ) (l : Tree) (j : ℕ) (e : Entry) (r : Tree) (i : ℕ) (n : Node) → right ≡ Some i → n ≡ get_or ns i n → Sides ns left right l j e r → Right ns left right l j e r i n
open_right ns left right l j e r i n is read s =
    let o = rooted ns right r s.upper i n is read in
    record {
      lower = o.lower;
      entry = o.entry;
      upper = o.upper;
      is = o.is;
      lefts = ap (λ (m : Node). m.left) o.cell_is;
      rights = ap (λ (m : Node). m.right) o.cell_is;
      sides = subst (λ t. Sides ns left right l j e t) o.is s;
    }

-- the left root comes up
module _ (ns : List Node) (left : Option ℕ) (j : ℕ) (right : Option ℕ) (i : ℕ) (is : left ≡ Some i) where
  pub ready_right : Ready ns left j right → Ready ns (node_at ns i).right j right
  ready_right p =
      let o = open_left ns left right p.0 j p.1 p.2 i (node_at ns i) is (read_at ns i) p.3 in
      (o.upper, p.1, p.2, right_first ns left right o.lower i o.entry o.upper j p.1 p.2 o.sides (node_at ns i).right o.rights)

  pub ready_right_2 : (ms : List Node) (low : ℕ) → Makes node ns ms (node_at ns i).right j right low → Ready ns left j right → Ready ms (node_at ns i).left i (Some low)
  ready_right_2 ms low m p =
      let e = p.1 in
      let r = p.2 in
      let o = open_left ns left right p.0 j e r i (node_at ns i) is (read_at ns i) p.3 in
      let f = right_first ns left right o.lower i o.entry o.upper j e r o.sides (node_at ns i).right o.rights in
      (o.lower, o.entry, node o.upper j e r, right_second ns left right o.lower i o.entry o.upper j e r o.sides ms (node_at ns i).left (Some low) o.lefts (m.kept o.upper e r f) (m.after o.upper e r f))

  pub turned_right : (ms ks : List Node) (low t : ℕ) → Makes node ns ms (node_at ns i).right j right low → Makes node ms ks (node_at ns i).left i (Some low) t → Makes turn_right ns ks left j right t
  turned_right ms ks low t one two =
      record {
        after = λ l e r s.
            let o = open_left ns left right l j e r i (node_at ns i) is (read_at ns i) s in
            let f = right_first ns left right o.lower i o.entry o.upper j e r o.sides (node_at ns i).right o.rights in
            let g = right_second ns left right o.lower i o.entry o.upper j e r o.sides ms (node_at ns i).left (Some low) o.lefts (one.kept o.upper e r f) (one.after o.upper e r f) in
            subst (λ u. Held ks (Some t) (turn_right u j e r)) (sym o.is) (two.after o.lower o.entry (node o.upper j e r) g);
        kept = λ l e r s.
            let o = open_left ns left right l j e r i (node_at ns i) is (read_at ns i) s in
            let f = right_first ns left right o.lower i o.entry o.upper j e r o.sides (node_at ns i).right o.rights in
            let g = right_second ns left right o.lower i o.entry o.upper j e r o.sides ms (node_at ns i).left (Some low) o.lefts (one.kept o.upper e r f) (one.after o.upper e r f) in
            subst (λ u. Kept ns ks (numbers u ++ j ∷ numbers r)) (sym o.is) (right_kept ns left right o.lower i o.entry o.upper j e r o.sides ms ks (one.kept o.upper e r f) (two.kept o.lower o.entry (node o.upper j e r) g));
        same = two.same ∙ one.same;
      }

-- the right root comes up
module _ (ns : List Node) (left : Option ℕ) (j : ℕ) (right : Option ℕ) (i : ℕ) (is : right ≡ Some i) where
  pub ready_left : Ready ns left j right → Ready ns left j (node_at ns i).left
  ready_left p =
      let o = open_right ns left right p.0 j p.1 p.2 i (node_at ns i) is (read_at ns i) p.3 in
      (p.0, p.1, o.lower, left_first ns left right p.0 j p.1 o.lower i o.entry o.upper o.sides (node_at ns i).left o.lefts)

  pub ready_left_2 : (ms : List Node) (low : ℕ) → Makes node ns ms left j (node_at ns i).left low → Ready ns left j right → Ready ms (Some low) i (node_at ns i).right
  ready_left_2 ms low m p =
      let l = p.0 in
      let e = p.1 in
      let o = open_right ns left right l j e p.2 i (node_at ns i) is (read_at ns i) p.3 in
      let f = left_first ns left right l j e o.lower i o.entry o.upper o.sides (node_at ns i).left o.lefts in
      (node l j e o.lower, o.entry, o.upper, left_second ns left right l j e o.lower i o.entry o.upper o.sides ms (node_at ns i).right (Some low) o.rights (m.kept l e o.lower f) (m.after l e o.lower f))

  pub turned_left : (ms ks : List Node) (low t : ℕ) → Makes node ns ms left j (node_at ns i).left low → Makes node ms ks (Some low) i (node_at ns i).right t → Makes turn_left ns ks left j right t
  turned_left ms ks low t one two =
      record {
        after = λ l e r s.
            let o = open_right ns left right l j e r i (node_at ns i) is (read_at ns i) s in
            let f = left_first ns left right l j e o.lower i o.entry o.upper o.sides (node_at ns i).left o.lefts in
            let g = left_second ns left right l j e o.lower i o.entry o.upper o.sides ms (node_at ns i).right (Some low) o.rights (one.kept l e o.lower f) (one.after l e o.lower f) in
            subst (λ u. Held ks (Some t) (turn_left l j e u)) (sym o.is) (two.after (node l j e o.lower) o.entry o.upper g);
        kept = λ l e r s.
            let o = open_right ns left right l j e r i (node_at ns i) is (read_at ns i) s in
            let f = left_first ns left right l j e o.lower i o.entry o.upper o.sides (node_at ns i).left o.lefts in
            let g = left_second ns left right l j e o.lower i o.entry o.upper o.sides ms (node_at ns i).right (Some low) o.rights (one.kept l e o.lower f) (one.after l e o.lower f) in
            subst (λ u. Kept ns ks (numbers l ++ j ∷ numbers u)) (sym o.is) (left_kept ns left right l j e o.lower i o.entry o.upper o.sides ms ks (one.kept l e o.lower f) (two.kept (node l j e o.lower) o.entry o.upper g));
        same = two.same ∙ one.same;
      }

-- A node tied over two sides holds their tree, and nothing else is changed.
use Rattle.std.proofs.Common.{◌≡◌, ℕ, ◌<◌, List, ◌∷◌, ◌++◌, length, Some, None, Option, sym, refl, ap, ◌∙◌, subst}
use Rattle.std.proofs.lemmas.Option.{slice_get_within}
use Rattle.std.specs.List.{slice_get}
use Rattle.std.proofs.ByRecursion.{All-weaker}
use Rattle.indexes.specs.Laws.{Away, Apart}
use Rattle.indexes.specs.declared.entry.Entry.{Entry}
use Rattle.avl_tree.specs.declared.node.Node.{Node}
use Rattle.avl_tree.specs.declared.node.Weight.{Weight}
use Rattle.avl_tree.specs.Nodes.{cell, altered, adopted, below, over, tied, Holds, Held, Sides, Kept, held_entries}
use Rattle.avl_tree.specs.Tree.{Tree, leaf, node, numbers, weight, joined, top}
use Rattle.avl_tree.proofs.Lists.{Disjoint, Parts, parts, away_parts, disjoint_sym}
use Rattle.avl_tree.proofs.Cells.{altered_same, altered_other, entries_altered, length_altered, holds_same}

-- the nodes of a tree, where one that is not among them is written
off_altered : (f : Node → Node) (ns : List Node) (i : ℕ) (p : Option ℕ) (t : Tree) → Away i (numbers t) → Holds ns p t → Holds (altered f ns i) p t
off_altered f ns i p t off h =
    holds_same ns (altered f ns i) p t (All-weaker (λ k. k ≡ i → ⊥) (λ k. slice_get (altered f ns i) k ≡ slice_get ns k) (altered_other f ns i) (numbers t) off) h

pub adopt_self : (ns : List Node) (p : Option ℕ) (t : Tree) (j : Option ℕ) → Apart (numbers t) → Holds ns p t → Holds (adopted ns (top t) j) j t
adopt_self ns p leaf j a h = tt
adopt_self ns p (node l i e r) j a h =
    let s = parts (numbers l) i (numbers r) a in
    (altered_same (below j) ns i (cell p l e r) h.0, off_altered (below j) ns i (Some i) l s.off_first h.1, off_altered (below j) ns i (Some i) r s.off_second h.2)

adopt_other : (ns : List Node) (t : Tree) (j : Option ℕ) (k : ℕ) → Away k (numbers t) → slice_get (adopted ns (top t) j) k ≡ slice_get ns k
adopt_other ns leaf j k off = refl
adopt_other ns (node l i e r) j k off =
    altered_other (below j) ns i k (away_parts k (numbers l) i (numbers r) off).1

adopt_off : (ns : List Node) (t : Tree) (j : Option ℕ) (p : Option ℕ) (u : Tree) → Disjoint (numbers u) (numbers t) → Holds ns p u → Holds (adopted ns (top t) j) p u
adopt_off ns t j p u off h =
    holds_same ns (adopted ns (top t) j) p u (All-weaker (λ k. Away k (numbers t)) (λ k. slice_get (adopted ns (top t) j) k ≡ slice_get ns k) (adopt_other ns t j) (numbers u) off) h

pub length_adopted : (ns : List Node) (link : Option ℕ) (j : Option ℕ) → length (adopted ns link j) ≡ length ns
length_adopted ns None j = refl
length_adopted ns (Some i) j = length_altered (below j) ns i

pub entries_adopted : (ns : List Node) (link : Option ℕ) (j : Option ℕ) → held_entries (adopted ns link j) ≡ held_entries ns
entries_adopted ns None j = refl
entries_adopted ns (Some i) j = entries_altered (below j) (λ _. refl) ns i

pub entries_tied : (ns : List Node) (left : Option ℕ) (j : ℕ) (right : Option ℕ) (w : Weight) → held_entries (tied ns left j right w) ≡ held_entries ns
entries_tied ns left j right w =
    entries_adopted (adopted (altered (over left right w) ns j) left (Some j)) right (Some j) ∙ entries_adopted (altered (over left right w) ns j) left (Some j) ∙ entries_altered (over left right w) (λ _. refl) ns j

-- a link that holds a tree is a node's number
pub link_within : (ns : List Node) (link : Option ℕ) (t : Tree) → Held ns link t → (i : ℕ) → link ≡ Some i → i < length ns
link_within ns link leaf h i is =
    let z : None ≡ Some i = sym h.at ∙ is in
    cc
link_within ns link (node l k e r) h i is =
    let s : Some k ≡ Some i = sym h.at ∙ is in
    let same : k ≡ i = cc in
    subst (λ n. n < length ns) same (slice_get_within ns k (cell h.above l e r) h.holds.0)

module _ (ns : List Node) (l : Tree) (j : ℕ) (e : Entry) (r : Tree) (s : Sides ns (top l) (top r) l j e r) where
  split : Parts (numbers l) j (numbers r)
  split = parts (numbers l) j (numbers r) s.apart

  tops_held : Held (tied ns (top l) j (top r) (joined (weight l) e (weight r))) (Some j) (node l j e r)
  tops_held =
      let v = joined (weight l) e (weight r) in
      let one = altered (over (top l) (top r) v) ns j in
      let two = adopted one (top l) (Some j) in
      let n : slice_get one j ≡ Some (cell s.old.parent l e r) = altered_same (over (top l) (top r) v) ns j s.old s.at ∙ ap (λ (x : Entry). Some (record { entry = x; left = top l; right = top r; parent = s.old.parent; weight = v })) s.entry_is in
      let l1 = off_altered (over (top l) (top r) v) ns j s.lower.above l split.off_first s.lower.holds in
      let r1 = off_altered (over (top l) (top r) v) ns j s.upper.above r split.off_second s.upper.holds in
      let l2 = adopt_self one s.lower.above l (Some j) split.first l1 in
      let r2 = adopt_off one l (Some j) s.upper.above r (disjoint_sym (numbers l) (numbers r) split.across) r1 in
      record {
        above = s.old.parent;
        at = refl;
        holds = (adopt_other two r (Some j) j split.off_second ∙ adopt_other one l (Some j) j split.off_first ∙ n, adopt_off two r (Some j) (Some j) l split.across l2, adopt_self two s.upper.above r (Some j) split.second r2);
      }

  tops_kept : Kept ns (tied ns (top l) j (top r) (joined (weight l) e (weight r))) (numbers l ++ j ∷ numbers r)
  tops_kept k off =
      let v = joined (weight l) e (weight r) in
      let one = altered (over (top l) (top r) v) ns j in
      let p = away_parts k (numbers l) j (numbers r) off in
      adopt_other (adopted one (top l) (Some j)) r (Some j) k p.2 ∙ adopt_other one l (Some j) k p.0 ∙ altered_other (over (top l) (top r) v) ns j k p.1

at_tops : (ns : List Node) (left right : Option ℕ) (l : Tree) (j : ℕ) (e : Entry) (r : Tree) → Sides ns left right l j e r → Sides ns (top l) (top r) l j e r
at_tops ns left right l j e r s =
    record {
      lower = record { above = s.lower.above; at = refl; holds = s.lower.holds };
      upper = record { above = s.upper.above; at = refl; holds = s.upper.holds };
      old = s.old;
      at = s.at;
      entry_is = s.entry_is;
      apart = s.apart;
      small = s.small;
    }

-- the same at links
link_tops : (ns : List Node) (left right : Option ℕ) (l : Tree) (j : ℕ) (r : Tree) (w : Weight) → left ≡ top l → right ≡ top r → tied ns (top l) j (top r) w ≡ tied ns left j right w
link_tops ns left right l j r w a b = ap (λ x. tied ns x j (top r) w) (sym a) ∙ ap (λ x. tied ns left j x w) (sym b)

pub tied_held : (ns : List Node) (left right : Option ℕ) (l : Tree) (j : ℕ) (e : Entry) (r : Tree) → Sides ns left right l j e r → Held (tied ns left j right (joined (weight l) e (weight r))) (Some j) (node l j e r)
tied_held ns left right l j e r s =
    subst (λ ms. Held ms (Some j) (node l j e r)) (link_tops ns left right l j r (joined (weight l) e (weight r)) s.lower.at s.upper.at) (tops_held ns l j e r (at_tops ns left right l j e r s))

pub tied_kept : (ns : List Node) (left right : Option ℕ) (l : Tree) (j : ℕ) (e : Entry) (r : Tree) → Sides ns left right l j e r → Kept ns (tied ns left j right (joined (weight l) e (weight r))) (numbers l ++ j ∷ numbers r)
tied_kept ns left right l j e r s =
    subst (λ ms. Kept ns ms (numbers l ++ j ∷ numbers r)) (link_tops ns left right l j r (joined (weight l) e (weight r)) s.lower.at s.upper.at) (tops_kept ns l j e r (at_tops ns left right l j e r s))

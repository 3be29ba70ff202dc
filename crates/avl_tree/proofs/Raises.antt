-- A side that is too high is raised: what one or two rotations make.
use Rattle.std.proofs.Common.{◌≡◌, ℕ, ◌+◌, true, false, ltb, List, ◌∷◌, ◌++◌, Some, Option, sym, ap, ◌∙◌, subst, arith}
use Rattle.std.proofs.lemmas.Bool.{cond-true, cond-false}
use Rattle.indexes.specs.Laws.{Away, Apart}
use Rattle.indexes.specs.declared.entry.Entry.{Entry}
use Rattle.avl_tree.specs.declared.node.Node.{Node}
use Rattle.avl_tree.specs.Nodes.{Held, Sides, Makes, Ready}
use Rattle.avl_tree.specs.Tree.{Tree, node, numbers, size, height}
use Rattle.avl_tree.specs.Turns.{turn_right, turn_left, raise_left, raise_right}
use Rattle.avl_tree.proofs.Weighs.{node_at, read_at}
use Rattle.avl_tree.proofs.Keeps.{turn_left_lists, turn_right_lists}
use Rattle.avl_tree.proofs.Lists.{parts, away_parts, disjoint_sym}
use Rattle.avl_tree.proofs.Turns.{Left, Right, open_left, open_right, inside, swap_left, swap_right, makes_by}

-- a way of joining keeps the numbers and their count
pub record Keeps (f : Tree → ℕ → Entry → Tree → Tree) : Type 0 where
  pub listed : (l : Tree) (j : ℕ) (e : Entry) (r : Tree) → numbers (f l j e r) ≡ numbers l ++ j ∷ numbers r
  pub sized : (l : Tree) (j : ℕ) (e : Entry) (r : Tree) → size (f l j e r) ≡ size l + size r + 1

pub turn_left_keeps : Keeps turn_left
turn_left_keeps =
    record { listed = λ l j e r. (turn_left_lists l j e r).listed; sized = λ l j e r. (turn_left_lists l j e r).sized }

pub turn_right_keeps : Keeps turn_right
turn_right_keeps =
    record { listed = λ l j e r. (turn_right_lists l j e r).listed; sized = λ l j e r. (turn_right_lists l j e r).sized }

module _ (ns : List Node) (left : Option ℕ) (j : ℕ) (right : Option ℕ) (i : ℕ) (is : left ≡ Some i) where
  -- the two sides of the left root
  within_left : (l : Tree) (e : Entry) (r : Tree) → (o : Left ns left right l j e r i (node_at ns i)) → Sides ns (node_at ns i).left (node_at ns i).right o.lower i o.entry o.upper
  within_left l e r o =
      inside ns o.sides.lower.above o.lower i o.entry o.upper (node_at ns i).left (node_at ns i).right o.lefts o.rights o.sides.lower.holds (parts (numbers o.lower ++ i ∷ numbers o.upper) j (numbers r) o.sides.apart).first (omega (arith, o.sides.small))

  pub ready_inside_left : Ready ns left j right → Ready ns (node_at ns i).left i (node_at ns i).right
  ready_inside_left p =
      let o = open_left ns left right p.0 j p.1 p.2 i (node_at ns i) is (read_at ns i) p.3 in
      (o.lower, o.entry, o.upper, within_left p.0 p.1 p.2 o)

  -- the left side joined anew
  anew_left : (ms : List Node) (m : ℕ) (f : Tree → ℕ → Entry → Tree → Tree) → Keeps f → Makes f ns ms (node_at ns i).left i (node_at ns i).right m → (l : Tree) (e : Entry) (r : Tree) → (o : Left ns left right l j e r i (node_at ns i)) → Sides ms (Some m) right (f o.lower i o.entry o.upper) j e r
  anew_left ms m f k one l e r o =
      let a = o.lower in
      let b = o.upper in
      let x = o.entry in
      let s = within_left l e r o in
      let p = parts (numbers a ++ i ∷ numbers b) j (numbers r) o.sides.apart in
      swap_left ns ms left right (Some m) (node a i x b) (f a i x b) j e r (numbers a ++ i ∷ numbers b) o.sides (one.after a x b s) (one.kept a x b s) p.off_first (disjoint_sym (numbers a ++ i ∷ numbers b) (numbers r) p.across) (subst (λ is. Apart (is ++ j ∷ numbers r)) (sym (k.listed a i x b)) o.sides.apart) (omega (arith, k.sized a i x b, o.sides.small))

  pub ready_anew_left : (ms : List Node) (m : ℕ) (f : Tree → ℕ → Entry → Tree → Tree) → Keeps f → Makes f ns ms (node_at ns i).left i (node_at ns i).right m → Ready ns left j right → Ready ms (Some m) j right
  ready_anew_left ms m f k one p =
      let o = open_left ns left right p.0 j p.1 p.2 i (node_at ns i) is (read_at ns i) p.3 in
      (f o.lower i o.entry o.upper, p.1, p.2, anew_left ms m f k one p.0 p.1 p.2 o)

  pub raised_left : (ms ks : List Node) (m t : ℕ) → ((a b : Tree) → Held ns (node_at ns i).left a → Held ns (node_at ns i).right b → ltb (height a) (height b) ≡ true) → Makes turn_left ns ms (node_at ns i).left i (node_at ns i).right m → Makes turn_right ms ks (Some m) j right t → Makes raise_left ns ks left j right t
  raised_left ms ks m t test one two =
      record {
        after = λ l e r s.
            let o = open_left ns left right l j e r i (node_at ns i) is (read_at ns i) s in
            let a = o.lower in
            let b = o.upper in
            let v = within_left l e r o in
            let u = anew_left ms m turn_left turn_left_keeps one l e r o in
            let tall = ap (λ w. turn_right w j e r) (cond-true (ltb (height a) (height b)) (turn_left a i o.entry b) (node a i o.entry b) (test a b v.lower v.upper)) in
            subst (Held ks (Some t)) (sym (ap (λ w. raise_left w j e r) o.is ∙ tall)) (two.after (turn_left a i o.entry b) e r u);
        kept = λ l e r s k off.
            let o = open_left ns left right l j e r i (node_at ns i) is (read_at ns i) s in
            let a = o.lower in
            let b = o.upper in
            let v = within_left l e r o in
            let u = anew_left ms m turn_left turn_left_keeps one l e r o in
            let off2 = subst (λ w. Away k (numbers w ++ j ∷ numbers r)) o.is off in
            two.kept (turn_left a i o.entry b) e r u k (subst (λ is. Away k (is ++ j ∷ numbers r)) (sym (turn_left_keeps.listed a i o.entry b)) off2)
            ∙ one.kept a o.entry b v k (away_parts k (numbers a ++ i ∷ numbers b) j (numbers r) off2).0;
        same = two.same ∙ one.same;
      }

  pub unraised_left : (ks : List Node) (t : ℕ) → ((a b : Tree) → Held ns (node_at ns i).left a → Held ns (node_at ns i).right b → ltb (height a) (height b) ≡ false) → Makes turn_right ns ks left j right t → Makes raise_left ns ks left j right t
  unraised_left ks t test one =
      makes_by turn_right raise_left ns ks left j right t
      (λ l e r s.
      let o = open_left ns left right l j e r i (node_at ns i) is (read_at ns i) s in
      let a = o.lower in
      let b = o.upper in
      let v = within_left l e r o in
      let low = ap (λ w. turn_right w j e r) (cond-false (ltb (height a) (height b)) (turn_left a i o.entry b) (node a i o.entry b) (test a b v.lower v.upper)) in
      ap (λ w. turn_right w j e r) o.is ∙ sym (ap (λ w. raise_left w j e r) o.is ∙ low))
      one

module _ (ns : List Node) (left : Option ℕ) (j : ℕ) (right : Option ℕ) (i : ℕ) (is : right ≡ Some i) where
  within_right : (l : Tree) (e : Entry) (r : Tree) → (o : Right ns left right l j e r i (node_at ns i)) → Sides ns (node_at ns i).left (node_at ns i).right o.lower i o.entry o.upper
  within_right l e r o =
      inside ns o.sides.upper.above o.lower i o.entry o.upper (node_at ns i).left (node_at ns i).right o.lefts o.rights o.sides.upper.holds (parts (numbers l) j (numbers o.lower ++ i ∷ numbers o.upper) o.sides.apart).second (omega (arith, o.sides.small))

  pub ready_inside_right : Ready ns left j right → Ready ns (node_at ns i).left i (node_at ns i).right
  ready_inside_right p =
      let o = open_right ns left right p.0 j p.1 p.2 i (node_at ns i) is (read_at ns i) p.3 in
      (o.lower, o.entry, o.upper, within_right p.0 p.1 p.2 o)

  anew_right : (ms : List Node) (m : ℕ) (f : Tree → ℕ → Entry → Tree → Tree) → Keeps f → Makes f ns ms (node_at ns i).left i (node_at ns i).right m → (l : Tree) (e : Entry) (r : Tree) → (o : Right ns left right l j e r i (node_at ns i)) → Sides ms left (Some m) l j e (f o.lower i o.entry o.upper)
  anew_right ms m f k one l e r o =
      let a = o.lower in
      let b = o.upper in
      let x = o.entry in
      let s = within_right l e r o in
      let p = parts (numbers l) j (numbers a ++ i ∷ numbers b) o.sides.apart in
      swap_right ns ms left right (Some m) l j e (node a i x b) (f a i x b) (numbers a ++ i ∷ numbers b) o.sides (one.after a x b s) (one.kept a x b s) p.off_second p.across (subst (λ is. Apart (numbers l ++ j ∷ is)) (sym (k.listed a i x b)) o.sides.apart) (omega (arith, k.sized a i x b, o.sides.small))

  pub ready_anew_right : (ms : List Node) (m : ℕ) (f : Tree → ℕ → Entry → Tree → Tree) → Keeps f → Makes f ns ms (node_at ns i).left i (node_at ns i).right m → Ready ns left j right → Ready ms left j (Some m)
  ready_anew_right ms m f k one p =
      let o = open_right ns left right p.0 j p.1 p.2 i (node_at ns i) is (read_at ns i) p.3 in
      (p.0, p.1, f o.lower i o.entry o.upper, anew_right ms m f k one p.0 p.1 p.2 o)

  pub raised_right : (ms ks : List Node) (m t : ℕ) → ((a b : Tree) → Held ns (node_at ns i).left a → Held ns (node_at ns i).right b → ltb (height b) (height a) ≡ true) → Makes turn_right ns ms (node_at ns i).left i (node_at ns i).right m → Makes turn_left ms ks left j (Some m) t → Makes raise_right ns ks left j right t
  raised_right ms ks m t test one two =
      record {
        after = λ l e r s.
            let o = open_right ns left right l j e r i (node_at ns i) is (read_at ns i) s in
            let a = o.lower in
            let b = o.upper in
            let v = within_right l e r o in
            let u = anew_right ms m turn_right turn_right_keeps one l e r o in
            let tall = ap (λ w. turn_left l j e w) (cond-true (ltb (height b) (height a)) (turn_right a i o.entry b) (node a i o.entry b) (test a b v.lower v.upper)) in
            subst (Held ks (Some t)) (sym (ap (λ w. raise_right l j e w) o.is ∙ tall)) (two.after l e (turn_right a i o.entry b) u);
        kept = λ l e r s k off.
            let o = open_right ns left right l j e r i (node_at ns i) is (read_at ns i) s in
            let a = o.lower in
            let b = o.upper in
            let v = within_right l e r o in
            let u = anew_right ms m turn_right turn_right_keeps one l e r o in
            let off2 = subst (λ w. Away k (numbers l ++ j ∷ numbers w)) o.is off in
            two.kept l e (turn_right a i o.entry b) u k (subst (λ is. Away k (numbers l ++ j ∷ is)) (sym (turn_right_keeps.listed a i o.entry b)) off2)
            ∙ one.kept a o.entry b v k (away_parts k (numbers l) j (numbers a ++ i ∷ numbers b) off2).2;
        same = two.same ∙ one.same;
      }

  pub unraised_right : (ks : List Node) (t : ℕ) → ((a b : Tree) → Held ns (node_at ns i).left a → Held ns (node_at ns i).right b → ltb (height b) (height a) ≡ false) → Makes turn_left ns ks left j right t → Makes raise_right ns ks left j right t
  unraised_right ks t test one =
      makes_by turn_left raise_right ns ks left j right t
      (λ l e r s.
      let o = open_right ns left right l j e r i (node_at ns i) is (read_at ns i) s in
      let a = o.lower in
      let b = o.upper in
      let v = within_right l e r o in
      let low = ap (λ w. turn_left l j e w) (cond-false (ltb (height b) (height a)) (turn_right a i o.entry b) (node a i o.entry b) (test a b v.lower v.upper)) in
      ap (λ w. turn_left l j e w) o.is ∙ sym (ap (λ w. raise_right l j e w) o.is ∙ low))
      one

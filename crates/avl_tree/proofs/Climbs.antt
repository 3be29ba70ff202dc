-- One step up: the parent of a subtree, and on which side of it the subtree stands.
use Rattle.std.proofs.Common.{eqb, ◌≡◌, ℕ, ◌+◌, ◌-◌, ◌<◌, ◌≤◌, true, false, ◌⊎◌, List, ◌∷◌, ◌++◌, length, get_or, Some, None, Option, sym, refl, ap, ◌∙◌, subst, inl, inr, arith, eq-eqb, eqb-true}
use Rattle.std.proofs.lemmas.Option.{slice_get_within}
use Rattle.std.specs.List.{slice_get}
use Rattle.indexes.specs.Laws.{Away, Apart}
use Rattle.indexes.specs.declared.entry.Entry.{Entry}
use Rattle.avl_tree.specs.declared.node.Node.{Node}
use Rattle.avl_tree.specs.Climb.{Found, Climbs}
use Rattle.std.specs.Option.{option_eq}
use Rattle.avl_tree.specs.Nodes.{cell, Holds, Held}
use Rattle.avl_tree.specs.Tree.{Tree, leaf, node, entries, numbers, size, top}
use Rattle.avl_tree.proofs.Cells.{read_is}
use Rattle.avl_tree.proofs.Lists.{parts, all_right}
use Rattle.avl_tree.proofs.Sizes.{size_entries}
use Rattle.avl_tree.proofs.Steps.{nth_left, nth_mid, nth_right}
use Rattle.avl_tree.proofs.Weighs.{node_at, read_at}

-- a subtree s at o below a node
pub record Above (ns : List Node) (t s : Tree) (o : ℕ) : Type 0 where
  pub number : ℕ
  pub lower : Tree
  pub entry : Entry
  pub upper : Tree
  pub offset : ℕ
  pub parent : Option ℕ
  pub found : Found t (node lower number entry upper) offset
  pub holds : Holds ns parent (node lower number entry upper)
  pub below : Holds ns (Some number) s
  pub side : ((s ≡ lower) × (o ≡ offset)) ⊎ ((s ≡ upper) × (o ≡ offset + size lower + 1))

pub up : (ns : List Node) (p : Option ℕ) (t s : Tree) (o : ℕ) → Holds ns p t → Found t s o → ((t ≡ s) × (o ≡ 0)) ⊎ Above ns t s o
up ns p leaf s o h f = absurd f
up ns p (node l j e r) s o h (inl w) = inl (sym w.0, w.1)
up ns p (node l j e r) s o h (inr (inl w)) =
    elim (up ns (Some j) l s o h.1 w) [
      | inl z ↦ inr record { number = j; lower = l; entry = e; upper = r; offset = 0; parent = p; found = inl (refl, refl); holds = h; below = subst (Holds ns (Some j)) z.0 h.1; side = inl (sym z.0, z.1) }
      | inr a ↦ inr record { number = a.number; lower = a.lower; entry = a.entry; upper = a.upper; offset = a.offset; parent = a.parent; found = inr (inl a.found); holds = a.holds; below = a.below; side = a.side }
    ]
up ns p (node l j e r) s o h (inr (inr w)) =
    elim (up ns (Some j) r s w.0 h.2 w.2) [
      | inl z ↦ inr record { number = j; lower = l; entry = e; upper = r; offset = 0; parent = p; found = inl (refl, refl); holds = h; below = subst (Holds ns (Some j)) z.0 h.2; side = inr (sym z.0, omega (arith, w.1, z.1)) }
      | inr a ↦
          inr record {
            number = a.number;
            lower = a.lower;
            entry = a.entry;
            upper = a.upper;
            offset = size l + 1 + a.offset;
            parent = a.parent;
            found = inr (inr (a.offset, refl, a.found));
            holds = a.holds;
            below = a.below;
            side = elim a.side [ inl z ↦ inl (z.0, omega (arith, w.1, z.1)) | inr z ↦ inr (z.0, omega (arith, w.1, z.1)) ];
          }
    ]

pub found_apart : (t s : Tree) (o : ℕ) → Found t s o → Apart (numbers t) → Apart (numbers s)
found_apart leaf s o f a = absurd f
found_apart (node l j e r) s o (inl w) a = subst (λ u. Apart (numbers u)) (sym w.0) a
found_apart (node l j e r) s o (inr (inl w)) a = found_apart l s o w (parts (numbers l) j (numbers r) a).first
found_apart (node l j e r) s o (inr (inr w)) a = found_apart r s w.0 w.2 (parts (numbers l) j (numbers r) a).second

pub found_size : (t s : Tree) (o : ℕ) → Found t s o → size s ≤ size t
found_size leaf s o f = absurd f
found_size (node l j e r) s o (inl w) = omega (arith, ap size w.0)
found_size (node l j e r) s o (inr (inl w)) = omega (arith, found_size l s o w)
found_size (node l j e r) s o (inr (inr w)) = omega (arith, found_size r s w.0 w.2)

-- the entry of a node stands behind those of its left side
pub found_entry : (t : Tree) (a : Tree) (i : ℕ) (x : Entry) (b : Tree) (o : ℕ) → Found t (node a i x b) o → slice_get (entries t) (o + size a) ≡ Some x
found_entry leaf a i x b o f = absurd f
found_entry (node l j e r) a i x b o (inl w) =
    let s = w.0 in
    let la : a ≡ l = cc in
    let xe : x ≡ e = cc in
    nth_mid (entries l) e (entries r) (o + size a) (omega (arith, w.1, ap size la, size_entries l)) ∙ ap Some (sym xe)
found_entry (node l j e r) a i x b o (inr (inl w)) =
    let h = found_entry l a i x b o w in
    nth_left (entries l) (e ∷ entries r) (o + size a) (slice_get_within (entries l) (o + size a) x h) ∙ h
found_entry (node l j e r) a i x b o (inr (inr w)) =
    let h = found_entry r a i x b w.0 w.2 in
    let q : o + size a - length (entries l) - 1 ≡ w.0 + size a = omega (arith, w.1, size_entries l) in
    nth_right (entries l) e (entries r) (o + size a) (omega (arith, w.1, size_entries l)) ∙ ap (slice_get (entries r)) q ∙ h

-- a number that is among those of a tree is not among those of a tree apart from it
in_both : (l : Tree) (j i : ℕ) (r : Tree) → Apart (numbers l ++ j ∷ numbers r) → top l ≡ Some i → top r ≡ Some i → ⊥
in_both leaf j i r a p q = cc
in_both (node u k x v) j i leaf a p q = cc
in_both (node u k x v) j i (node y m z w) a p q =
    let d = (parts (numbers u ++ k ∷ numbers v) j (numbers y ++ m ∷ numbers w) a).across in
    let off = (all_right (λ n. Away n (numbers y ++ m ∷ numbers w)) (numbers u) (k ∷ numbers v) d).0 in
    let ne = (all_right (λ n. n ≡ k → ⊥) (numbers y) (m ∷ numbers w) off).0 in
    let e : m ≡ k = cc in
    ne e

link_at : (link : Option ℕ) (i : ℕ) → link ≡ Some i → option_eq eqb link (Some i) ≡ true
link_at link i is = subst (λ k. option_eq eqb k (Some i) ≡ true) (sym is) (eq-eqb i i refl)

at_link : (link : Option ℕ) (i : ℕ) → option_eq eqb link (Some i) ≡ true → link ≡ Some i
at_link None i is = cc
at_link (Some k) i is = ap Some (eqb-true k i is)

-- the node of a subtree
held_cell : (ns : List Node) (q : Option ℕ) (s : Tree) (i : ℕ) (n : Node) → Holds ns q s → top s ≡ Some i → n ≡ get_or ns i n → n.parent ≡ q
held_cell ns q leaf i n h is read = cc
held_cell ns q (node a k x b) i n h is read =
    let e : k ≡ i = cc in
    ap (λ (m : Node). m.parent) (read_is ns i (cell q a x b) n (subst (λ m. slice_get ns m ≡ Some (cell q a x b)) e h.0) read)

pub climb_held : (ns : List Node) (i : ℕ) (t s : Tree) (o : ℕ) → Climbs ns i t s o → Held ns (Some i) s
climb_held ns i t s o c =
    elim (up ns None t s o c.holds c.found) [
      | inl z ↦ record { above = None; at = sym c.at; holds = subst (Holds ns None) z.0 c.holds }
      | inr a ↦ record { above = Some a.number; at = sym c.at; holds = a.below }
    ]

module _ (ns : List Node) (i : ℕ) where
  -- no parent: the whole tree
  pub at_top : (t s : Tree) (o : ℕ) → Climbs ns i t s o → (node_at ns i).parent ≡ None → o ≡ 0
  at_top t s o c is =
      elim (up ns None t s o c.holds c.found) [
        | inl z ↦ z.1
        | inr a ↦
            let p = held_cell ns (Some a.number) s i (node_at ns i) a.below c.at (read_at ns i) in
            cc
      ]

  pub parent_of : (t s : Tree) (o j : ℕ) → Climbs ns i t s o → (node_at ns i).parent ≡ Some j → (a : Above ns t s o) × (a.number ≡ j)
  parent_of t s o j c is =
      elim (up ns None t s o c.holds c.found) [
        | inl z ↦
            let p = held_cell ns None s i (node_at ns i) (subst (Holds ns None) z.0 c.holds) c.at (read_at ns i) in
            cc
        | inr a ↦
            let p = held_cell ns (Some a.number) s i (node_at ns i) a.below c.at (read_at ns i) in
            let e : a.number ≡ j = cc in
            (a, e)
      ]

  -- the parent j, whose node was read
  module _ (j : ℕ) (is : (node_at ns i).parent ≡ Some j) where
    parent_cell : (t s : Tree) (o : ℕ) → (c : Climbs ns i t s o) → node_at ns j ≡ cell (parent_of t s o j c is).0.parent (parent_of t s o j c is).0.lower (parent_of t s o j c is).0.entry (parent_of t s o j c is).0.upper
    parent_cell t s o c =
        let a = (parent_of t s o j c is).0 in
        let e = (parent_of t s o j c is).1 in
        read_is ns j (cell a.parent a.lower a.entry a.upper) (node_at ns j) (subst (λ k. slice_get ns k ≡ Some (cell a.parent a.lower a.entry a.upper)) e a.holds.0) (read_at ns j)

    pub left_held : (t s : Tree) (o : ℕ) → (c : Climbs ns i t s o) → Held ns (node_at ns j).left (parent_of t s o j c is).0.lower
    left_held t s o c =
        let a = (parent_of t s o j c is).0 in
        record { above = Some a.number; at = ap (λ (d : Node). d.left) (parent_cell t s o c); holds = a.holds.1 }

    pub climbs_on : (t s : Tree) (o : ℕ) → (c : Climbs ns i t s o) → Climbs ns j t (node (parent_of t s o j c is).0.lower (parent_of t s o j c is).0.number (parent_of t s o j c is).0.entry (parent_of t s o j c is).0.upper) (parent_of t s o j c is).0.offset
    climbs_on t s o c =
        let a = parent_of t s o j c is in
        record { holds = c.holds; found = a.0.found; at = ap Some a.1; apart = c.apart; small = c.small }

    pub from_right : (t s : Tree) (o : ℕ) → (c : Climbs ns i t s o) → option_eq eqb (node_at ns j).right (Some i) ≡ true → o ≡ (parent_of t s o j c is).0.offset + size (parent_of t s o j c is).0.lower + 1
    from_right t s o c test =
        let a = (parent_of t s o j c is).0 in
        let r : top a.upper ≡ Some i = sym (ap (λ (d : Node). d.right) (parent_cell t s o c)) ∙ at_link (node_at ns j).right i test in
        elim a.side [
          | inl z ↦ absurd (in_both a.lower a.number i a.upper (found_apart t (node a.lower a.number a.entry a.upper) a.offset a.found c.apart) (ap top (sym z.0) ∙ c.at) r)
          | inr z ↦ z.1
        ]

    pub from_left : (t s : Tree) (o : ℕ) → (c : Climbs ns i t s o) → option_eq eqb (node_at ns j).right (Some i) ≡ false → o ≡ (parent_of t s o j c is).0.offset
    from_left t s o c test =
        let a = (parent_of t s o j c is).0 in
        elim a.side [
          | inl z ↦ z.1
          | inr z ↦
              let r = link_at (node_at ns j).right i (ap (λ (d : Node). d.right) (parent_cell t s o c) ∙ ap top (sym z.0) ∙ c.at) in
              cc
        ]

    pub larger : (t s : Tree) (o : ℕ) → (c : Climbs ns i t s o) → size s < size (node (parent_of t s o j c is).0.lower (parent_of t s o j c is).0.number (parent_of t s o j c is).0.entry (parent_of t s o j c is).0.upper)
    larger t s o c =
        let a = (parent_of t s o j c is).0 in
        elim a.side [ inl z ↦ omega (arith, ap size z.0) | inr z ↦ omega (arith, ap size z.0) ]

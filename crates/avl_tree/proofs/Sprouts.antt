-- A new node is put below a root: on its left, and on its right.
use Rattle.std.proofs.Common.{◌≡◌, ℕ, ◌-◌, ◌<◌, ◌≤◌, List, ◌∷◌, ◌++◌, length, Some, Option, sym, ap, ◌∙◌, subst, arith}
use Rattle.std.proofs.lemmas.List.Edits.{insert-append_left}
use Rattle.std.specs.List.{insert}
use Rattle.std.proofs.ByRecursion.{All-weaker}
use Rattle.indexes.specs.Laws.{Away, Apart}
use Rattle.indexes.specs.declared.entry.Entry.{Entry}
use Rattle.indexes.proofs.Apart.{apart_inserted}
use Rattle.avl_tree.specs.declared.node.Node.{Node}
use Rattle.avl_tree.specs.Nodes.{Sides, Sprout, Puts}
use Rattle.avl_tree.specs.Tree.{Tree, node, numbers, size}
use Rattle.avl_tree.specs.Turns.{put}
use Rattle.avl_tree.proofs.Lists.{Disjoint, parts, away_parts, disjoint_sym, all_both}
use Rattle.avl_tree.proofs.Puts.{inserts, insert_behind}
use Rattle.avl_tree.proofs.Sizes.{size_numbers}
use Rattle.avl_tree.proofs.Turns.{swap_left, swap_right}
use Rattle.avl_tree.proofs.Weighs.{Rooted, opened, lefts, rights, sides_of, node_at}

-- apart from a list and from one number more
disjoint_more : (k : ℕ) (is js : List ℕ) → Away k is → Disjoint is js → Disjoint is (k ∷ js)
disjoint_more k is js off d =
    all_both (λ i. k ≡ i → ⊥) (λ i. Away i js) is (All-weaker (λ i. i ≡ k → ⊥) (λ i. k ≡ i → ⊥) (λ i h e. h (sym e)) is off) d

module _ (ns : List Node) (link : Option ℕ) (j : ℕ) (is : link ≡ Some j) (place new : ℕ) where
  pub root_of : (t : Tree) (x : Entry) → Sprout ns link place new t x → Rooted ns t j (node_at ns j)
  root_of t x s = opened s.held is

  -- t is the tree of its root
  pub at_root : (t : Tree) (x : Entry) → (s : Sprout ns link place new t x) → Sprout ns link place new (node (root_of t x s).lower j (root_of t x s).entry (root_of t x s).upper) x
  at_root t x s = subst (λ u. Sprout ns link place new u x) (root_of t x s).is s

  base : (t : Tree) (x : Entry) → (s : Sprout ns link place new t x) → Sides ns (node_at ns j).left (node_at ns j).right (root_of t x s).lower j (root_of t x s).entry (root_of t x s).upper
  base t x s = sides_of (root_of t x s) s.apart (omega (arith, s.small))

  pub sprout_left : (t : Tree) (x : Entry) → (s : Sprout ns link place new t x) → place ≤ size (root_of t x s).lower → Sprout ns (node_at ns j).left place new (root_of t x s).lower x
  sprout_left t x s low =
      let o = root_of t x s in
      let u = at_root t x s in
      record {
        held = lefts o;
        fresh = s.fresh;
        apart = (parts (numbers o.lower) j (numbers o.upper) u.apart).first;
        off = (away_parts new (numbers o.lower) j (numbers o.upper) u.off).0;
        small = omega (arith, u.small);
        within = low;
      }

  pub sprout_right : (t : Tree) (x : Entry) → (s : Sprout ns link place new t x) → size (root_of t x s).lower < place → Sprout ns (node_at ns j).right (place - size (root_of t x s).lower - 1) new (root_of t x s).upper x
  sprout_right t x s high =
      let o = root_of t x s in
      let u = at_root t x s in
      record {
        held = rights o;
        fresh = s.fresh;
        apart = (parts (numbers o.lower) j (numbers o.upper) u.apart).second;
        off = (away_parts new (numbers o.lower) j (numbers o.upper) u.off).2;
        small = omega (arith, u.small);
        within = omega (arith, u.within, high);
      }

  apart_put : (t : Tree) (x : Entry) → Sprout ns link place new t x → Apart (insert (numbers t) place new)
  apart_put t x s = apart_inserted new (numbers t) place s.off s.apart

  module _ (ms : List Node) (m : ℕ) where
    pub sides_left : Puts ns ms (node_at ns j).left place new m → (t : Tree) (x : Entry) → (s : Sprout ns link place new t x) → place ≤ size (root_of t x s).lower → Sides ms (Some m) (node_at ns j).right (put (root_of t x s).lower place new x) j (root_of t x s).entry (root_of t x s).upper
    sides_left one t x s low =
        let o = root_of t x s in
        let u = at_root t x s in
        let l = o.lower in
        let r = o.upper in
        let v = sprout_left t x s low in
        let p = parts (numbers l) j (numbers r) u.apart in
        let q = away_parts new (numbers l) j (numbers r) u.off in
        let k = inserts l place new x low in
        let whole = insert-append_left (numbers l) (j ∷ numbers r) place new (omega (arith, size_numbers l)) in
        swap_left ns ms (node_at ns j).left (node_at ns j).right (Some m) l (put l place new x) j o.entry r (new ∷ numbers l) (base t x s) (one.after l x v) (one.kept l x v) (q.1, p.off_first) (disjoint_more new (numbers r) (numbers l) q.2 (disjoint_sym (numbers l) (numbers r) p.across)) (subst Apart (whole ∙ ap (λ ks. ks ++ j ∷ numbers r) (sym k.listed)) (apart_put (node l j o.entry r) x u)) (omega (arith, k.sized, u.small))

    pub sides_right : (q : ℕ) → Puts ns ms (node_at ns j).right q new m → (t : Tree) (x : Entry) → (s : Sprout ns link place new t x) → size (root_of t x s).lower < place → q ≡ place - size (root_of t x s).lower - 1 → Sides ms (node_at ns j).left (Some m) (root_of t x s).lower j (root_of t x s).entry (put (root_of t x s).upper q new x)
    sides_right q one t x s high is =
        let o = root_of t x s in
        let u = at_root t x s in
        let l = o.lower in
        let r = o.upper in
        let v = subst (λ z. Sprout ns (node_at ns j).right z new r x) (sym is) (sprout_right t x s high) in
        let p = parts (numbers l) j (numbers r) u.apart in
        let a = away_parts new (numbers l) j (numbers r) u.off in
        let k = inserts r q new x v.within in
        let same : place - length (numbers l) - 1 ≡ q = ap (λ z. place - z - 1) (sym (size_numbers l)) ∙ sym is in
        let whole = insert_behind (numbers l) j (numbers r) place new (omega (arith, size_numbers l, high)) ∙ ap (λ z. numbers l ++ j ∷ insert (numbers r) z new) same in
        swap_right ns ms (node_at ns j).left (node_at ns j).right (Some m) l j o.entry r (put r q new x) (new ∷ numbers r) (base t x s) (one.after r x v) (one.kept r x v) (a.1, p.off_second) (disjoint_more new (numbers l) (numbers r) a.0 p.across) (subst Apart (whole ∙ ap (λ ks. numbers l ++ j ∷ ks) (sym k.listed)) (apart_put (node l j o.entry r) x u)) (omega (arith, k.sized, u.small))

-- What a put below a root makes, from what it makes on one side.
use Rattle.std.proofs.Common.{◌≡◌, ℕ, ◌-◌, ◌<◌, ◌≤◌, leb, List, ◌∷◌, ◌++◌, length, Some, None, Option, sym, refl, ap, ◌∙◌, subst, arith, le-leb}
use Rattle.std.proofs.lemmas.List.Edits.{insert-append_left}
use borrow.Author.Tests.{lt-leb}
use Rattle.std.specs.List.{insert}
use Rattle.std.proofs.lemmas.Bool.{cond-true, cond-false}
use Rattle.indexes.specs.Laws.{Away}
use Rattle.indexes.specs.declared.entry.Entry.{Entry}
use Rattle.indexes.proofs.Apart.{away_inserted}
use Rattle.avl_tree.specs.declared.node.Node.{Node}
use Rattle.avl_tree.specs.Nodes.{Held, Makes, Ready, Sprout, Puts}
use Rattle.avl_tree.specs.Tree.{Tree, leaf, node, numbers, size}
use Rattle.avl_tree.specs.Turns.{balanced, put}
use Rattle.avl_tree.proofs.Lists.{away_parts}
use Rattle.avl_tree.proofs.Puts.{inserts, insert_behind}
use Rattle.avl_tree.proofs.Sizes.{size_numbers}
use Rattle.avl_tree.proofs.Weighs.{lefts, node_at}
use Rattle.avl_tree.proofs.Sprouts.{root_of, sprout_left, sprout_right, sides_left, sides_right}

-- the new node alone
pub put_none : (ns : List Node) (link : Option ℕ) (place new : ℕ) → link ≡ None → Puts ns ns link place new new
put_none ns link place new is =
    record {
      after = λ t x s. alone t x s;
      kept = λ _ _ _ _ _. refl;
      same = refl;
    }
  where
    alone : (t : Tree) (x : Entry) → Sprout ns link place new t x → Held ns (Some new) (put t place new x)
    alone leaf x s = s.fresh
    alone (node l i e r) x s =
        let z : None ≡ Some i = sym is ∙ s.held.at in
        cc

module _ (ns : List Node) (link : Option ℕ) (j : ℕ) (is : link ≡ Some j) (place new : ℕ) (ms : List Node) (m : ℕ) where
  pub ready_put_left : Puts ns ms (node_at ns j).left place new m → (t : Tree) (x : Entry) → (s : Sprout ns link place new t x) → place ≤ size (root_of ns link j is place new t x s).lower → Ready ms (Some m) j (node_at ns j).right
  ready_put_left one t x s low =
      let o = root_of ns link j is place new t x s in
      (put o.lower place new x, o.entry, o.upper, sides_left ns link j is place new ms m one t x s low)

  pub put_left : (ks : List Node) (top : ℕ) → ((l : Tree) → Held ns (node_at ns j).left l → place ≤ size l) → Puts ns ms (node_at ns j).left place new m → Makes balanced ms ks (Some m) j (node_at ns j).right top → Puts ns ks link place new top
  put_left ks top test one two =
      record {
        after = λ t x s.
            let o = root_of ns link j is place new t x s in
            let l = o.lower in
            let low = test l (lefts o) in
            let v = sides_left ns link j is place new ms m one t x s low in
            let path = ap (λ u. put u place new x) o.is ∙ cond-true (leb place (size l)) (balanced (put l place new x) j o.entry o.upper) _ (le-leb place (size l) low) in
            subst (Held ks (Some top)) (sym path) (two.after (put l place new x) o.entry o.upper v);
        kept = λ t x s k off.
            let o = root_of ns link j is place new t x s in
            let l = o.lower in
            let r = o.upper in
            let low = test l (lefts o) in
            let v = sides_left ns link j is place new ms m one t x s low in
            let off2 = subst (λ u. Away k (numbers u)) o.is off.1 in
            let a = away_parts k (numbers l) j (numbers r) off2 in
            let same = insert-append_left (numbers l) (j ∷ numbers r) place new (omega (arith, size_numbers l, low)) ∙ ap (λ zs. zs ++ j ∷ numbers r) (sym (inserts l place new x low).listed) in
            two.kept (put l place new x) o.entry r v k (subst (Away k) same (away_inserted k new (numbers l ++ j ∷ numbers r) place off.0 off2))
            ∙ one.kept l x (sprout_left ns link j is place new t x s low) k (off.0, a.0);
        same = two.same ∙ one.same;
      }

  pub ready_put_right : (q : ℕ) → Puts ns ms (node_at ns j).right q new m → (t : Tree) (x : Entry) → (s : Sprout ns link place new t x) → size (root_of ns link j is place new t x s).lower < place → q ≡ place - size (root_of ns link j is place new t x s).lower - 1 → Ready ms (node_at ns j).left j (Some m)
  ready_put_right q one t x s high same =
      let o = root_of ns link j is place new t x s in
      (o.lower, o.entry, put o.upper q new x, sides_right ns link j is place new ms m q one t x s high same)

  pub put_right : (ks : List Node) (top q : ℕ) → ((l : Tree) → Held ns (node_at ns j).left l → (size l < place) × (q ≡ place - size l - 1)) → Puts ns ms (node_at ns j).right q new m → Makes balanced ms ks (node_at ns j).left j (Some m) top → Puts ns ks link place new top
  put_right ks top q test one two =
      record {
        after = λ t x s.
            let o = root_of ns link j is place new t x s in
            let l = o.lower in
            let r = o.upper in
            let h = test l (lefts o) in
            let v = sides_right ns link j is place new ms m q one t x s h.0 h.1 in
            let path = ap (λ u. put u place new x) o.is ∙ cond-false (leb place (size l)) _ (balanced l j o.entry (put r (place - size l - 1) new x)) (lt-leb place (size l) h.0) ∙ ap (λ z. balanced l j o.entry (put r z new x)) (sym h.1) in
            subst (Held ks (Some top)) (sym path) (two.after l o.entry (put r q new x) v);
        kept = λ t x s k off.
            let o = root_of ns link j is place new t x s in
            let l = o.lower in
            let r = o.upper in
            let h = test l (lefts o) in
            let v = sides_right ns link j is place new ms m q one t x s h.0 h.1 in
            let w = subst (λ z. Sprout ns (node_at ns j).right z new r x) (sym h.1) (sprout_right ns link j is place new t x s h.0) in
            let off2 = subst (λ u. Away k (numbers u)) o.is off.1 in
            let a = away_parts k (numbers l) j (numbers r) off2 in
            let at : place - length (numbers l) - 1 ≡ q = ap (λ z. place - z - 1) (sym (size_numbers l)) ∙ sym h.1 in
            let same = insert_behind (numbers l) j (numbers r) place new (omega (arith, size_numbers l, h.0)) ∙ ap (λ z. numbers l ++ j ∷ insert (numbers r) z new) at ∙ ap (λ zs. numbers l ++ j ∷ zs) (sym (inserts r q new x w.within).listed) in
            two.kept l o.entry (put r q new x) v k (subst (Away k) same (away_inserted k new (numbers l ++ j ∷ numbers r) place off.0 off2))
            ∙ one.kept r x w k (off.0, a.2);
        same = two.same ∙ one.same;
      }

-- A revision of a tree: what it does to the in-order lists and the heights, and how nodes hold it.
use Rattle.std.proofs.Common.{◌≡◌, ℕ, zero, suc, ◌+◌, ◌-◌, ◌<◌, max, Bool, true, false, cond, eqb, ltb, List, [], ◌∷◌, ◌++◌, Some, Option, sym, refl, ap, ◌∙◌, subst, arith, ltb-false, ltb-true, le-ltb, lt-ltb, eq-eqb, ne_eqb, eqb-true}
use borrow.Author.Tests.{eqb-false}
use Rattle.std.proofs.lemmas.Bool.{cond-true, cond-false}
use Rattle.indexes.specs.Changes.{at_place}
use Rattle.indexes.specs.Laws.{Away, Apart}
use Rattle.indexes.specs.Questions.{characters}
use Rattle.indexes.specs.declared.entry.Entry.{Entry}
use Rattle.avl_tree.specs.declared.node.Node.{Node}
use Rattle.avl_tree.specs.Nodes.{altered, Held, Sides, Kept, Makes, Ready, Stood, Revises, held_entries}
use Rattle.avl_tree.specs.Tree.{Tree, leaf, node, entries, numbers, size, height, Even}
use Rattle.avl_tree.specs.Turns.{revised}
use Rattle.avl_tree.proofs.Lists.{parts, away_parts, disjoint_sym}
use Rattle.avl_tree.proofs.Cells.{altered_same, altered_other, held_kept}
use Rattle.avl_tree.proofs.Sizes.{size_entries}
use Rattle.avl_tree.proofs.Steps.{change_left, change_mid, change_right}
use Rattle.avl_tree.proofs.Turns.{swap_left, swap_right}
use Rattle.avl_tree.proofs.Weighs.{Rooted, opened, lefts, rights, sides_of, node_at}

pub record Revised (f : Entry → Entry) (t : Tree) (place : ℕ) (u : Tree) : Type 0 where
  pub listed : numbers u ≡ numbers t
  pub written : entries u ≡ at_place f (entries t) place
  pub sized : size u ≡ size t
  pub tall : height u ≡ height t
  pub even : Even t → Even u

three : (f : Entry → Entry) (t : Tree) (place n : ℕ) (a b c : Tree) → (place < n → Revised f t place a) → (place ≡ n → Revised f t place b) → (n < place → Revised f t place c) → Revised f t place (cond (ltb place n) a (cond (eqb place n) b c))
three f t place n a b c low mid high =
    by (ltb place n) (eqb place n) refl refl
  where
    by : (x y : Bool) → ltb place n ≡ x → eqb place n ≡ y → Revised f t place (cond x a (cond y b c))
    by true y is at = low (ltb-true place n is)
    by false true is at = mid (eqb-true place n at)
    by false false is at = let h = ltb-false place n is in let ne = eqb-false place n at in high (omega (arith, h, ne))

pub revising : (f : Entry → Entry) (t : Tree) (place : ℕ) → Revised f t place (revised f t place)
revising f leaf place = record { listed = refl; written = refl; sized = refl; tall = refl; even = λ _. tt }
revising f (node l j e r) place =
    three f (node l j e r) place (size l) (node (revised f l place) j e r) (node l j (f e) r) (node l j e (revised f r (place - size l - 1)))
    (λ low.
    let k = revising f l place in
    record {
      listed = ap (λ is. is ++ j ∷ numbers r) k.listed;
      written = ap (λ es. es ++ e ∷ entries r) k.written ∙ sym (change_left f (entries l) (e ∷ entries r) place (omega (arith, low, size_entries l)));
      sized = omega (arith, k.sized);
      tall = ap (λ n. max n (height r) + 1) k.tall;
      even = λ v. (omega (arith, k.tall, v.0), omega (arith, k.tall, v.1), k.even v.2, v.3);
    })
    (λ at.
    record {
      listed = refl;
      written = sym (change_mid f (entries l) e (entries r) place (omega (arith, at, size_entries l)));
      sized = refl;
      tall = refl;
      even = λ v. v;
    })
    (λ high.
    let k = revising f r (place - size l - 1) in
    let n = ap (λ m. place - m - 1) (size_entries l) in
    record {
      listed = ap (λ is. numbers l ++ j ∷ is) k.listed;
      written = ap (λ es. entries l ++ e ∷ es) (k.written ∙ ap (at_place f (entries r)) n) ∙ sym (change_right f (entries l) e (entries r) place (omega (arith, high, size_entries l)));
      sized = omega (arith, k.sized);
      tall = ap (λ n. max (height l) n + 1) k.tall;
      even = λ v. (omega (arith, k.tall, v.0), omega (arith, k.tall, v.1), v.2, k.even v.3);
    })

-- the entry of a node changed
abbrev pub retitled : (Entry → Entry) → Node → Node
retitled f n = record { entry = f n.entry; left = n.left; right = n.right; parent = n.parent; weight = n.weight }

pub characters_altered : (f : Node → Node) → ((n : Node) → (f n).entry.character ≡ n.entry.character) → (ns : List Node) (i : ℕ) → characters (held_entries (altered f ns i)) ≡ characters (held_entries ns)
characters_altered f keeps [] i = refl
characters_altered f keeps (n ∷ ns) zero = ap (λ c. c ∷ characters (held_entries ns)) (keeps n)
characters_altered f keeps (n ∷ ns) (suc i) = ap (λ cs. n.entry.character ∷ cs) (characters_altered f keeps ns i)

module _ (f : Entry → Entry) (ns : List Node) (link : Option ℕ) (j : ℕ) (is : link ≡ Some j) where
  pub root : (t : Tree) → Stood ns link t → Rooted ns t j (node_at ns j)
  root t s = opened s.held is

  base : (t : Tree) → (s : Stood ns link t) → Sides ns (node_at ns j).left (node_at ns j).right (root t s).lower j (root t s).entry (root t s).upper
  base t s = sides_of (root t s) s.apart s.small

  pub stood_left : (t : Tree) → (s : Stood ns link t) → Stood ns (node_at ns j).left (root t s).lower
  stood_left t s =
      let o = root t s in
      record { held = lefts o; apart = (parts (numbers o.lower) j (numbers o.upper) (base t s).apart).first; small = omega (arith, s.small, ap size o.is) }

  pub stood_right : (t : Tree) → (s : Stood ns link t) → Stood ns (node_at ns j).right (root t s).upper
  stood_right t s =
      let o = root t s in
      record { held = rights o; apart = (parts (numbers o.lower) j (numbers o.upper) (base t s).apart).second; small = omega (arith, s.small, ap size o.is) }

  -- the result at the link, whatever number the join answered
  at_link : (ks : List Node) (t : Tree) (i : ℕ) (l : Tree) (e : Entry) (r : Tree) → t ≡ node l j e r → Held ks (Some i) (node l j e r) → Held ks link t
  at_link ks t i l e r same h =
      subst (Held ks link) (sym same) record { above = h.above; at = is; holds = h.holds }

  module _ (ms : List Node) (place : ℕ) where
    sides_left : Revises f ns ms (node_at ns j).left place → (t : Tree) → (s : Stood ns link t) → Sides ms (node_at ns j).left (node_at ns j).right (revised f (root t s).lower place) j (root t s).entry (root t s).upper
    sides_left one t s =
        let o = root t s in
        let l = o.lower in
        let r = o.upper in
        let b = base t s in
        let p = parts (numbers l) j (numbers r) b.apart in
        let k = revising f l place in
        swap_left ns ms (node_at ns j).left (node_at ns j).right (node_at ns j).left l (revised f l place) j o.entry r (numbers l) b (one.after l (stood_left t s)) (one.kept l (stood_left t s)) p.off_first (disjoint_sym (numbers l) (numbers r) p.across) (subst (λ is. Apart (is ++ j ∷ numbers r)) (sym k.listed) b.apart) (omega (arith, k.sized, b.small))

    pub ready_revised_left : Revises f ns ms (node_at ns j).left place → (t : Tree) → Stood ns link t → Ready ms (node_at ns j).left j (node_at ns j).right
    ready_revised_left one t s =
        let o = root t s in
        (revised f o.lower place, o.entry, o.upper, sides_left one t s)

    pub revised_left : (ks : List Node) (i : ℕ) → ((l : Tree) → Held ns (node_at ns j).left l → place < size l) → Revises f ns ms (node_at ns j).left place → Makes node ms ks (node_at ns j).left j (node_at ns j).right i → Revises f ns ks link place
    revised_left ks i test one two =
        record {
          after = λ t s.
              let o = root t s in
              let l = o.lower in
              let r = o.upper in
              let path = ap (λ u. revised f u place) o.is ∙ cond-true (ltb place (size l)) (node (revised f l place) j o.entry r) _ (lt-ltb place (size l) (test l (lefts o))) in
              at_link ks (revised f t place) i (revised f l place) o.entry r path (two.after (revised f l place) o.entry r (sides_left one t s));
          kept = λ t s k off.
              let o = root t s in
              let l = o.lower in
              let r = o.upper in
              let off2 = subst (λ u. Away k (numbers u)) o.is off in
              two.kept (revised f l place) o.entry r (sides_left one t s) k (subst (λ is. Away k (is ++ j ∷ numbers r)) (sym (revising f l place).listed) off2)
              ∙ one.kept l (stood_left t s) k (away_parts k (numbers l) j (numbers r) off2).0;
          same = ap characters two.same ∙ one.same;
        }

    sides_right : (q : ℕ) → Revises f ns ms (node_at ns j).right q → (t : Tree) → (s : Stood ns link t) → Sides ms (node_at ns j).left (node_at ns j).right (root t s).lower j (root t s).entry (revised f (root t s).upper q)
    sides_right q one t s =
        let o = root t s in
        let l = o.lower in
        let r = o.upper in
        let b = base t s in
        let p = parts (numbers l) j (numbers r) b.apart in
        let k = revising f r q in
        swap_right ns ms (node_at ns j).left (node_at ns j).right (node_at ns j).right l j o.entry r (revised f r q) (numbers r) b (one.after r (stood_right t s)) (one.kept r (stood_right t s)) p.off_second p.across (subst (λ is. Apart (numbers l ++ j ∷ is)) (sym k.listed) b.apart) (omega (arith, k.sized, b.small))

    pub ready_revised_right : (q : ℕ) → Revises f ns ms (node_at ns j).right q → (t : Tree) → Stood ns link t → Ready ms (node_at ns j).left j (node_at ns j).right
    ready_revised_right q one t s =
        let o = root t s in
        (o.lower, o.entry, revised f o.upper q, sides_right q one t s)

    pub revised_right : (ks : List Node) (i q : ℕ) → ((l : Tree) → Held ns (node_at ns j).left l → (size l < place) × (q ≡ place - size l - 1)) → Revises f ns ms (node_at ns j).right q → Makes node ms ks (node_at ns j).left j (node_at ns j).right i → Revises f ns ks link place
    revised_right ks i q test one two =
        record {
          after = λ t s.
              let o = root t s in
              let l = o.lower in
              let r = o.upper in
              let h = test l (lefts o) in
              let high = h.0 in
              let path = ap (λ u. revised f u place) o.is ∙ cond-false (ltb place (size l)) _ _ (le-ltb place (size l) (omega (arith, high))) ∙ cond-false (eqb place (size l)) _ (node l j o.entry (revised f r (place - size l - 1))) (ne_eqb place (size l) (λ e. omega (arith, high, e))) ∙ ap (λ z. node l j o.entry (revised f r z)) (sym h.1) in
              at_link ks (revised f t place) i l o.entry (revised f r q) path (two.after l o.entry (revised f r q) (sides_right q one t s));
          kept = λ t s k off.
              let o = root t s in
              let l = o.lower in
              let r = o.upper in
              let off2 = subst (λ u. Away k (numbers u)) o.is off in
              two.kept l o.entry (revised f r q) (sides_right q one t s) k (subst (λ is. Away k (numbers l ++ j ∷ is)) (sym (revising f r q).listed) off2)
              ∙ one.kept r (stood_right t s) k (away_parts k (numbers l) j (numbers r) off2).2;
          same = ap characters two.same ∙ one.same;
        }

  -- the entry of the root itself
  kept_here : Kept ns (altered (retitled f) ns j) (j ∷ [])
  kept_here k off = altered_other (retitled f) ns j k (λ e. off.0 (sym e))

  sides_here : (t : Tree) → (s : Stood ns link t) → Sides (altered (retitled f) ns j) (node_at ns j).left (node_at ns j).right (root t s).lower j (f (root t s).entry) (root t s).upper
  sides_here t s =
      let o = root t s in
      let l = o.lower in
      let r = o.upper in
      let b = base t s in
      let p = parts (numbers l) j (numbers r) b.apart in
      let ms = altered (retitled f) ns j in
      record {
        lower = held_kept ns ms (node_at ns j).left l (j ∷ []) kept_here (disjoint_sym (j ∷ []) (numbers l) (p.off_first, tt)) b.lower;
        upper = held_kept ns ms (node_at ns j).right r (j ∷ []) kept_here (disjoint_sym (j ∷ []) (numbers r) (p.off_second, tt)) b.upper;
        old = retitled f b.old;
        at = altered_same (retitled f) ns j b.old b.at;
        entry_is = ap f b.entry_is;
        apart = b.apart;
        small = b.small;
      }

  pub ready_here : (t : Tree) → Stood ns link t → Ready (altered (retitled f) ns j) (node_at ns j).left j (node_at ns j).right
  ready_here t s = let o = root t s in (o.lower, f o.entry, o.upper, sides_here t s)

  pub revised_here : ((e : Entry) → (f e).character ≡ e.character) → (ks : List Node) (i place : ℕ) → ((l : Tree) → Held ns (node_at ns j).left l → place ≡ size l) → Makes node (altered (retitled f) ns j) ks (node_at ns j).left j (node_at ns j).right i → Revises f ns ks link place
  revised_here keeps ks i place test two =
      record {
        after = λ t s.
            let o = root t s in
            let l = o.lower in
            let r = o.upper in
            let at = test l (lefts o) in
            let path = ap (λ u. revised f u place) o.is ∙ cond-false (ltb place (size l)) _ _ (le-ltb place (size l) (omega (arith, at))) ∙ cond-true (eqb place (size l)) (node l j (f o.entry) r) _ (eq-eqb place (size l) at) in
            at_link ks (revised f t place) i l (f o.entry) r path (two.after l (f o.entry) r (sides_here t s));
        kept = λ t s k off.
            let o = root t s in
            let l = o.lower in
            let r = o.upper in
            let off2 = subst (λ u. Away k (numbers u)) o.is off in
            two.kept l (f o.entry) r (sides_here t s) k off2 ∙ altered_other (retitled f) ns j k (away_parts k (numbers l) j (numbers r) off2).1;
        same = ap characters two.same ∙ characters_altered (retitled f) (λ m. keeps m.entry) ns j;
      }

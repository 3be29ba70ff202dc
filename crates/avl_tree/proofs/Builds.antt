-- A tree over two runs and the node between them.
use Rattle.std.proofs.Common.{◌≡◌, ℕ, zero, suc, ◌+◌, ◌*◌, ◌^◌, ◌<◌, ◌≤◌, max, ◌⊎◌, List, [], ◌∷◌, ◌++◌, length, Some, None, Option, sym, refl, ap, ◌∙◌, subst, inl, inr, arith, pow_mono}
use native.Mathlib.Nat.{pow-succ'}
use Rattle.std.proofs.lemmas.Bool.{cases_lt}
use lib.ListN.{length-map}
use Rattle.std.specs.List.{slice_get}
use Rattle.indexes.specs.Laws.{Away, Apart}
use Rattle.avl_tree.specs.declared.node.Node.{Node}
use Rattle.avl_tree.specs.Builds.{range, Builds}
use Rattle.avl_tree.specs.Nodes.{Sides, Makes, Ready, held_entries}
use Rattle.avl_tree.specs.Tree.{leaf, node, numbers, size, height}
use Rattle.avl_tree.proofs.Cells.{held_kept}
use Rattle.avl_tree.proofs.Lists.{Disjoint, away_parts}
use Rattle.avl_tree.proofs.Ranges.{length_range, apart_range, disjoint_runs, range_split}
use Rattle.avl_tree.proofs.Sizes.{size_numbers}

pub build_none : (ns : List Node) (from : ℕ) → Builds ns ns from 0 None
build_none ns from =
    record {
      tree = leaf;
      held = record { above = None; at = refl; holds = tt };
      listed = refl;
      even = tt;
      low = omega arith;
      high = omega arith;
      kept = λ _ _. refl;
      same = refl;
    }

-- heights of trees that are as low as their counts allow
twice : (h : ℕ) → 2 ^ suc h ≡ 2 * 2 ^ h
twice h = pow-succ' 2 h

four : (x y : ℕ) → x + 2 ≤ y → 4 * 2 ^ x ≤ 2 ^ y
four x y le =
    let m : 2 ^ suc (suc x) ≤ 2 ^ y = pow_mono (omega arith) in
    omega (arith, m, twice x, twice (suc x))

-- a power above 1 is even
half_of : (h n : ℕ) → 2 ^ h ≤ 2 * n + 1 → 2 ^ h ≤ 2 * n ⊎ (h ≡ 0)
half_of zero n le = inr refl
half_of (suc h) n le = inl (omega (arith, le, twice h))

record Level (a b hl hr : ℕ) : Type 0 where
  left : hl ≤ hr + 1
  right : hr ≤ hl + 1
  low : 2 ^ (max hl hr + 1) ≤ 2 * (a + b + 1) + 1
  high : a + b + 1 < 2 ^ (max hl hr + 1)

level : (a b hl hr : ℕ) → b ≤ a → a ≤ b + 1 → 2 ^ hl ≤ 2 * a + 1 → a < 2 ^ hl → 2 ^ hr ≤ 2 * b + 1 → b < 2 ^ hr → Level a b hl hr
level a b hl hr ba ab la ha lb hb =
    let left : hl ≤ hr + 1 = elim (cases_lt hl (hr + 2)) [ inl near ↦ omega (arith, near) | inr far ↦ absurd (omega (arith, four hr hl far)) ] in
    let right : hr ≤ hl + 1 = elim (cases_lt hr (hl + 2)) [ inl near ↦ omega (arith, near) | inr far ↦ absurd (omega (arith, four hl hr far)) ] in
    elim (cases_lt hr hl) [
      | inl gt ↦
          let m : max hl hr + 1 ≡ suc hl = omega (arith, gt) in
          let mono : 2 ^ hr ≤ 2 ^ hl = pow_mono (omega (arith, gt)) in
          let e = ap (λ h. 2 ^ h) m ∙ twice hl in
          record {
            left = left;
            right = right;
            low = elim (half_of hl a la) [ inl z ↦ omega (arith, e, z) | inr z ↦ absurd (omega (arith, gt, z)) ];
            high = omega (arith, e, mono);
          }
      | inr le ↦
          let m : max hl hr + 1 ≡ suc hr = omega (arith, le) in
          let mono : 2 ^ hl ≤ 2 ^ hr = pow_mono le in
          let e = ap (λ h. 2 ^ h) m ∙ twice hr in
          record { left = left; right = right; low = omega (arith, e); high = omega (arith, e, mono) }
    ]

pub nth_some : {X : Type 0} (xs : List X) (i : ℕ) → i < length xs → (x : X) × (slice_get xs i ≡ Some x)
nth_some [] i within = absurd (omega arith)
nth_some (x ∷ xs) zero within = (x, refl)
nth_some (x ∷ xs) (suc i) within = nth_some xs i (omega arith)

module _ (ns ms ks : List Node) (from half rest count : ℕ) (left right : Option ℕ) (one : Builds ns ms from half left) (two : Builds ms ks (from + half + 1) rest right) (total : count ≡ half + rest + 1) (within : from + count ≤ length ks) (small : length ks ≤ 65536) where
  middle : (n : Node) × (slice_get ks (from + half) ≡ Some n)
  middle = nth_some ks (from + half) (omega (arith, total, within))

  whole : numbers one.tree ++ (from + half) ∷ numbers two.tree ≡ range from count
  whole =
      ap (λ is. is ++ (from + half) ∷ numbers two.tree) one.listed ∙ ap (λ is. range from half ++ (from + half) ∷ is) two.listed ∙ sym (range_split from half rest) ∙ ap (range from) (sym total)

  size_one : size one.tree ≡ half
  size_one = size_numbers one.tree ∙ ap length one.listed ∙ length_range from half

  size_two : size two.tree ≡ rest
  size_two = size_numbers two.tree ∙ ap length two.listed ∙ length_range (from + half + 1) rest

  sides : Sides ks left right one.tree (from + half) middle.0.entry two.tree
  sides =
      record {
        lower = held_kept ms ks left one.tree (range (from + half + 1) rest) two.kept (subst (λ is. Disjoint is (range (from + half + 1) rest)) (sym one.listed) (disjoint_runs from half (from + half + 1) rest (omega arith))) one.held;
        upper = two.held;
        old = middle.0;
        at = middle.1;
        entry_is = refl;
        apart = subst Apart (sym whole) (apart_range from count);
        small = omega (arith, size_one, size_two, total, within, small);
      }

  pub ready_build : Ready ks left (from + half) right
  ready_build = (one.tree, middle.0.entry, two.tree, sides)

  pub built : (js : List Node) (i : ℕ) → rest ≤ half → half ≤ rest + 1 → Makes node ks js left (from + half) right i → Builds ns js from count (Some i)
  built js i more less m =
      let l = one.tree in
      let r = two.tree in
      let e = middle.0.entry in
      let v = level half rest (height l) (height r) more less one.low one.high two.low two.high in
      record {
        tree = node l (from + half) e r;
        held = m.after l e r sides;
        listed = whole;
        even = (v.left, v.right, one.even, two.even);
        low = omega (arith, v.low, total);
        high = omega (arith, v.high, total);
        kept = λ k off.
            let all = subst (Away k) (sym whole) off in
            let p = away_parts k (numbers l) (from + half) (numbers r) all in
            m.kept l e r sides k all ∙ two.kept k (subst (Away k) two.listed p.2) ∙ one.kept k (subst (Away k) one.listed p.0);
        same = m.same ∙ two.same ∙ one.same;
      }

pub same_length : (ns ms : List Node) → held_entries ms ≡ held_entries ns → length ms ≡ length ns
same_length ns ms same =
    sym (length-map ms (λ (n : Node). n.entry)) ∙ ap length same ∙ length-map ns (λ (n : Node). n.entry)

-- Rotations make an AVL tree of two that differ in height by at most two, and a put keeps one.
use Rattle.std.proofs.Common.{◌≡◌, ℕ, ◌+◌, ◌-◌, ◌<◌, ◌≤◌, max, Bool, true, false, cond, ltb, leb, refl, inl, inr, arith, ltb-false, ltb-true}
use Rattle.std.proofs.lemmas.Bool.{cases_lt}
use Rattle.indexes.specs.declared.entry.Entry.{Entry}
use Rattle.avl_tree.specs.Tree.{Tree, leaf, node, height, size, Even}
use Rattle.avl_tree.specs.Turns.{turn_right, turn_left, raise_left, raise_right, balanced, put}

-- a tree over sides of heights m and n
pub record Level (t : Tree) (m n : ℕ) : Type 0 where
  pub even : Even t
  pub plain : m ≤ n + 1 → n ≤ m + 1 → height t ≡ max m n + 1
  pub up : height t ≤ max m n + 1
  pub down : max m n ≤ height t

-- the left side is two higher, and its right side the higher
double_left : (a : Tree) (i : ℕ) (x : Entry) (b : Tree) (j : ℕ) (e : Entry) (r : Tree) → Even (node a i x b) → Even r → height (node a i x b) ≡ height r + 2 → height a < height b → Level (turn_right (turn_left a i x b) j e r) (height (node a i x b)) (height r)
double_left a i x leaf j e r v w tall test = absurd (omega arith)
double_left a i x (node b m y c) j e r v w tall test =
    let q = v.3 in
    record {
      even = ((omega (arith, q.0, q.1, v.0, v.1)), omega (arith, q.0, q.1, v.0, v.1), (omega (arith, q.0, q.1, v.0, v.1), omega (arith, q.0, q.1, v.0, v.1), v.2, q.2), (omega (arith, q.0, q.1, v.0, v.1), omega (arith, q.0, q.1, v.0, v.1), q.3, w));
      plain = λ s t. absurd (omega (arith, s, tall));
      up = omega (arith, q.0, q.1, v.0, v.1);
      down = omega (arith, q.0, q.1, v.0, v.1);
    }

single_left : (a : Tree) (i : ℕ) (x : Entry) (b : Tree) (j : ℕ) (e : Entry) (r : Tree) → Even (node a i x b) → Even r → height (node a i x b) ≡ height r + 2 → height b ≤ height a → Level (turn_right (node a i x b) j e r) (height (node a i x b)) (height r)
single_left a i x b j e r v w tall test =
    record {
      even = (omega (arith, v.0, v.1), omega (arith, v.0, v.1), v.2, (omega (arith, v.0, v.1), omega (arith, v.0, v.1), v.3, w));
      plain = λ s t. absurd (omega (arith, s, tall));
      up = omega (arith, v.0, v.1);
      down = omega (arith, v.0, v.1);
    }

raise_left_level : (l : Tree) (j : ℕ) (e : Entry) (r : Tree) → Even l → Even r → height l ≡ height r + 2 → Level (raise_left l j e r) (height l) (height r)
raise_left_level leaf j e r v w tall = absurd (omega arith)
raise_left_level (node a i x b) j e r v w tall = by (ltb (height a) (height b)) refl
  where
    by : (t : Bool) → ltb (height a) (height b) ≡ t → Level (turn_right (cond t (turn_left a i x b) (node a i x b)) j e r) (height (node a i x b)) (height r)
    by true is = double_left a i x b j e r v w tall (ltb-true _ _ is)
    by false is = single_left a i x b j e r v w tall (ltb-false _ _ is)

double_right : (l : Tree) (j : ℕ) (e : Entry) (b : Tree) (k : ℕ) (y : Entry) (c : Tree) → Even l → Even (node b k y c) → height (node b k y c) ≡ height l + 2 → height c < height b → Level (turn_left l j e (turn_right b k y c)) (height l) (height (node b k y c))
double_right l j e leaf k y c w v tall test = absurd (omega arith)
double_right l j e (node a m z b) k y c w v tall test =
    let q = v.2 in
    record {
      even = (omega (arith, q.0, q.1, v.0, v.1), omega (arith, q.0, q.1, v.0, v.1), (omega (arith, q.0, q.1, v.0, v.1), omega (arith, q.0, q.1, v.0, v.1), w, q.2), (omega (arith, q.0, q.1, v.0, v.1), omega (arith, q.0, q.1, v.0, v.1), q.3, v.3));
      plain = λ s t. absurd (omega (arith, t, tall));
      up = omega (arith, q.0, q.1, v.0, v.1);
      down = omega (arith, q.0, q.1, v.0, v.1);
    }

single_right : (l : Tree) (j : ℕ) (e : Entry) (b : Tree) (k : ℕ) (y : Entry) (c : Tree) → Even l → Even (node b k y c) → height (node b k y c) ≡ height l + 2 → height b ≤ height c → Level (turn_left l j e (node b k y c)) (height l) (height (node b k y c))
single_right l j e b k y c w v tall test =
    record {
      even = (omega (arith, v.0, v.1), omega (arith, v.0, v.1), (omega (arith, v.0, v.1), omega (arith, v.0, v.1), w, v.2), v.3);
      plain = λ s t. absurd (omega (arith, t, tall));
      up = omega (arith, v.0, v.1);
      down = omega (arith, v.0, v.1);
    }

raise_right_level : (l : Tree) (j : ℕ) (e : Entry) (r : Tree) → Even l → Even r → height r ≡ height l + 2 → Level (raise_right l j e r) (height l) (height r)
raise_right_level l j e leaf v w tall = absurd (omega arith)
raise_right_level l j e (node b k y c) v w tall = by (ltb (height c) (height b)) refl
  where
    by : (t : Bool) → ltb (height c) (height b) ≡ t → Level (turn_left l j e (cond t (turn_right b k y c) (node b k y c))) (height l) (height (node b k y c))
    by true is = double_right l j e b k y c v w tall (ltb-true _ _ is)
    by false is = single_right l j e b k y c v w tall (ltb-false _ _ is)

pub balanced_level : (l : Tree) (j : ℕ) (e : Entry) (r : Tree) → Even l → Even r → height l ≤ height r + 2 → height r ≤ height l + 2 → Level (balanced l j e r) (height l) (height r)
balanced_level l j e r v w near far = by (ltb (height r + 1) (height l)) (ltb (height l + 1) (height r)) refl refl
  where
    by : (s t : Bool) → ltb (height r + 1) (height l) ≡ s → ltb (height l + 1) (height r) ≡ t → Level (cond s (raise_left l j e r) (cond t (raise_right l j e r) (node l j e r))) (height l) (height r)
    by true t is at = let h = ltb-true _ _ is in raise_left_level l j e r v w (omega (arith, h))
    by false true is at = let h = ltb-true _ _ at in raise_right_level l j e r v w (omega (arith, h))
    by false false is at =
        let h = ltb-false _ _ is in
        let k = ltb-false _ _ at in
        record { even = (omega (arith, h), omega (arith, k), v, w); plain = λ _ _. refl; up = omega arith; down = omega arith }

-- the height of a tree over a side that has grown by at most one, from m to k beside n
low : (m n k h : ℕ) → m ≤ n + 1 → n ≤ m + 1 → m ≤ k → k ≤ m + 1 → (k ≤ n + 1 → n ≤ k + 1 → h ≡ max k n + 1) → h ≤ max k n + 1 → max k n ≤ h → (max m n + 1 ≤ h) × (h ≤ max m n + 1 + 1)
low m n k h a b c d plain up down =
    elim (cases_lt (n + 1) k) [
      | inl far ↦ (omega (arith, far), omega (arith, far))
      | inr near ↦ let e = plain near (omega (arith, b, c)) in (omega (arith, e), omega (arith, e))
    ]

high : (m n k h : ℕ) → m ≤ n + 1 → n ≤ m + 1 → n ≤ k → k ≤ n + 1 → (m ≤ k + 1 → k ≤ m + 1 → h ≡ max m k + 1) → h ≤ max m k + 1 → max m k ≤ h → (max m n + 1 ≤ h) × (h ≤ max m n + 1 + 1)
high m n k h a b c d plain up down =
    elim (cases_lt (m + 1) k) [
      | inl far ↦ (omega (arith, far), omega (arith, far))
      | inr near ↦ let e = plain (omega (arith, a, c)) near in (omega (arith, e), omega (arith, e))
    ]

-- a put keeps an AVL tree, and makes it at most one higher
pub record Grows (t u : Tree) : Type 0 where
  pub even : Even u
  pub least : height t ≤ height u
  pub most : height u ≤ height t + 1

grows_left : (l : Tree) (j : ℕ) (e : Entry) (r : Tree) (m : Tree) → Even (node l j e r) → Grows l m → Grows (node l j e r) (balanced m j e r)
grows_left l j e r m v g =
    let k = balanced_level m j e r g.even v.3 (omega (arith, v.0, g.most)) (omega (arith, v.1, g.least)) in
    let h = low (height l) (height r) (height m) (height (balanced m j e r)) v.0 v.1 g.least g.most k.plain k.up k.down in
    record { even = k.even; least = h.0; most = h.1 }

grows_right : (l : Tree) (j : ℕ) (e : Entry) (r : Tree) (m : Tree) → Even (node l j e r) → Grows r m → Grows (node l j e r) (balanced l j e m)
grows_right l j e r m v g =
    let k = balanced_level l j e m v.2 g.even (omega (arith, v.0, g.least)) (omega (arith, v.1, g.most)) in
    let h = high (height l) (height r) (height m) (height (balanced l j e m)) v.0 v.1 g.least g.most k.plain k.up k.down in
    record { even = k.even; least = h.0; most = h.1 }

grows_either : (b : Bool) (t u v : Tree) → Grows t u → Grows t v → Grows t (cond b u v)
grows_either true t u v x y = x
grows_either false t u v x y = y

pub put_even : (t : Tree) (place i : ℕ) (x : Entry) → Even t → Grows t (put t place i x)
put_even leaf place i x v = record { even = (omega arith, omega arith, tt, tt); least = omega arith; most = omega arith }
put_even (node l j e r) place i x v =
    grows_either (leb place (size l)) (node l j e r) (balanced (put l place i x) j e r) (balanced l j e (put r (place - size l - 1) i x)) (grows_left l j e r (put l place i x) v (put_even l place i x v.2)) (grows_right l j e r (put r (place - size l - 1) i x) v (put_even r (place - size l - 1) i x v.3))

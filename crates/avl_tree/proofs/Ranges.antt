-- Runs of numbers.
use Rattle.std.proofs.Common.{◌≡◌, ℕ, zero, suc, ◌+◌, ◌<◌, ◌≤◌, List, [], ◌∷◌, ◌++◌, map, length, Some, refl, ap, ◌∙◌, arith}
use Rattle.std.specs.List.{slice_get}
use Rattle.indexes.specs.Laws.{Away, Apart}
use Rattle.avl_tree.specs.Builds.{range}
use Rattle.avl_tree.proofs.Lists.{Disjoint}

pub length_range : (from n : ℕ) → length (range from n) ≡ n
length_range from zero = refl
length_range from (suc n) = ap suc (length_range (suc from) n)

pub away_above : (k from n : ℕ) → k < from → Away k (range from n)
away_above k from zero lt = tt
away_above k from (suc n) lt = (λ e. omega (arith, e), away_above k (suc from) n (omega arith))

pub away_below : (k from n : ℕ) → from + n ≤ k → Away k (range from n)
away_below k from zero ge = tt
away_below k from (suc n) ge = (λ e. omega (arith, e), away_below k (suc from) n (omega arith))

pub apart_range : (from n : ℕ) → Apart (range from n)
apart_range from zero = tt
apart_range from (suc n) = (away_above from (suc from) n (omega arith), apart_range (suc from) n)

-- two runs, one behind the other
pub disjoint_runs : (a m b n : ℕ) → a + m ≤ b → Disjoint (range a m) (range b n)
disjoint_runs a zero b n le = tt
disjoint_runs a (suc m) b n le = (away_above a b n (omega arith), disjoint_runs (suc a) m b n (omega arith))

pub range_split : (from a b : ℕ) → range from (a + b + 1) ≡ range from a ++ (from + a) ∷ range (from + a + 1) b
range_split from zero b =
    let e : 0 + b + 1 ≡ suc b = omega arith in
    let f : from ≡ from + 0 = omega arith in
    let g : suc from ≡ from + 0 + 1 = omega arith in
    ap (range from) e ∙ ap (λ k. k ∷ range (suc from) b) f ∙ ap (λ k. (from + 0) ∷ range k b) g
range_split from (suc a) b =
    let e : suc a + b + 1 ≡ suc (a + b + 1) = omega arith in
    let f : suc from + a ≡ from + suc a = omega arith in
    ap (range from) e ∙ ap (λ ks. from ∷ ks) (range_split (suc from) a b ∙ ap (λ k. range (suc from) a ++ k ∷ range (k + 1) b) f)

-- the numbers below the length read the whole list
nth_drop : {X : Type 0} (x : X) (xs : List X) (from n : ℕ) → map (slice_get (x ∷ xs)) (range (suc from) n) ≡ map (slice_get xs) (range from n)
nth_drop x xs from zero = refl
nth_drop x xs from (suc n) = ap (λ ys. slice_get xs from ∷ ys) (nth_drop x xs (suc from) n)

pub nth_range : {X : Type 0} (xs : List X) → map (slice_get xs) (range 0 (length xs)) ≡ map Some xs
nth_range [] = refl
nth_range (x ∷ xs) = ap (λ ys. Some x ∷ ys) (nth_drop x xs 0 (length xs) ∙ nth_range xs)

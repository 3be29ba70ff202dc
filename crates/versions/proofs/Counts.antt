-- Counts: of the events with a mark, of a number in a list, and of a sum where one number's share changes.
use Rattle.std.proofs.Common.{◌≡◌, ℕ, zero, suc, ◌+◌, ◌<◌, ◌≤◌, cond, not, ◌&&◌, eqb, ltb, List, [], ◌∷◌, sum_by, refl, inl, inr, arith}
use Rattle.std.proofs.lemmas.List.Sums.{sum_by-cons}
use Rattle.std.proofs.lemmas.Bool.{cases_eq, eq-eqb, ne_eqb}
use Rattle.std.proofs.lemmas.Bool.Decides.{nat_tests}
use Rattle.versions.specs.Marks.{marked_below}
use Rattle.versions.specs.Searches.{copies}

pub none_one : (m : ℕ) → m ≡ 0 → cond {A = ℕ} (eqb m 0) 0 1 ≡ 0
none_one m e = rw (eq-eqb m 0 e)

pub some_one : (m : ℕ) → (m ≡ 0 → ⊥) → cond {A = ℕ} (eqb m 0) 0 1 ≡ 1
some_one m n = rw (ne_eqb m 0 n)

pub marked_le : (m : ℕ → ℕ) (k : ℕ) → marked_below m k ≤ k
marked_le m zero = omega arith
marked_le m (suc k) = grind (arith, nat_tests, marked_le m k)

-- an event without a mark leaves room
pub marked_lt : (m : ℕ → ℕ) (k e : ℕ) → e < k → m e ≡ 0 → marked_below m k < k
marked_lt m zero e l z = absurd (omega arith)
marked_lt m (suc k) e l z = grind (arith, nat_tests, marked_le m k, marked_lt m k e)

pub marked_none : (m : ℕ → ℕ) → ((x : ℕ) → m x ≡ 0) → (k : ℕ) → marked_below m k ≡ 0
marked_none m none zero = refl
marked_none m none (suc k) = grind (arith, nat_tests, none k, marked_none m none k)

-- where the same events have marks
pub marked_same : (m n : ℕ → ℕ) (k : ℕ) → ((x : ℕ) → x < k → cond {A = ℕ} (eqb (n x) 0) 0 1 ≡ cond (eqb (m x) 0) 0 1) → marked_below n k ≡ marked_below m k
marked_same m n zero same = refl
marked_same m n (suc k) same = omega (arith, marked_same m n k (λ x l. same x (omega arith)), same k (omega arith))

pub marked_more : (m n : ℕ → ℕ) (k e : ℕ) → e < k → m e ≡ 0 → (n e ≡ 0 → ⊥) → ((x : ℕ) → (x ≡ e → ⊥) → n x ≡ m x) → marked_below n k ≡ marked_below m k + 1
marked_more m n zero e l z s same = absurd (omega arith)
marked_more m n (suc k) e l z s same = elim (cases_eq e k) [
  | inl q ↦
      let a = marked_same m n k (λ x b. let h = same x (λ r. omega arith) in cc) in
      grind (arith, nat_tests)
  | inr d ↦ grind (arith, nat_tests, marked_more m n k e, same k)
]

pub hit_yes : (y e : ℕ) → y ≡ e → cond {A = ℕ} (eqb y e) 1 0 ≡ 1
hit_yes y e q = rw (eq-eqb y e q)

pub hit_no : (y e : ℕ) → (y ≡ e → ⊥) → cond {A = ℕ} (eqb y e) 1 0 ≡ 0
hit_no y e n = rw (ne_eqb y e n)

-- a share of a sum over a list that has the number
pub share_le : (f : ℕ → ℕ) (e : ℕ) (xs : List ℕ) → 0 < copies e xs → f e ≤ sum_by f xs
share_le f e [] l = absurd (omega arith)
share_le f e (y ∷ ys) l =
    grind (arith, nat_tests, share_le f e ys, sum_by-cons f y ys, sum_by-cons (λ z. cond (eqb z e) 1 0) y ys)

module _ (f g : ℕ → ℕ) (e : ℕ) (same : (x : ℕ) → (x ≡ e → ⊥) → g x ≡ f x) where
  pub change_none : (xs : List ℕ) → copies e xs ≡ 0 → sum_by g xs ≡ sum_by f xs
  change_none [] c = refl
  change_none (y ∷ ys) c =
      grind (arith, nat_tests, sum_by-cons (λ z. cond (eqb z e) 1 0) y ys, sum_by-cons f y ys, sum_by-cons g y ys, same y, change_none ys)

  pub change_one : (xs : List ℕ) → copies e xs ≡ 1 → sum_by g xs + f e ≡ sum_by f xs + g e
  change_one [] c = absurd (omega arith)
  change_one (y ∷ ys) c =
      grind (arith, nat_tests, sum_by-cons (λ z. cond (eqb z e) 1 0) y ys, sum_by-cons f y ys, sum_by-cons g y ys, same y, change_none ys, change_one ys)

-- how often a number stands in the queue, by its mark k and the bound, where the number e is queued besides
pub once_more : (c d x e k l bound : ℕ) → d ≡ c + cond (eqb e x) 1 0 → c ≡ cond (not (eqb k 0) && ltb x bound) 1 0 → (x ≡ e → k ≡ 0) → (x ≡ e → l ≡ 0 → ⊥) → ((x ≡ e → ⊥) → l ≡ k) → e < bound → d ≡ cond (not (eqb l 0) && ltb x bound) 1 0
once_more c d x e k l bound sum was bare some same low = grind (arith, nat_tests)

-- and where e was taken, the latest
pub once_less : (c d x e k l bound : ℕ) → c ≡ d + cond (eqb e x) 1 0 → c ≡ cond (not (eqb k 0) && ltb x bound) 1 0 → (x ≡ e → k ≡ 0 → ⊥) → (e < x → x < bound → k ≡ 0) → l ≡ k → e < bound → d ≡ cond (not (eqb l 0) && ltb x e) 1 0
once_less c d x e k l bound sum was some gap same low = grind (arith, nat_tests)

-- what stands there has a mark and is below the bound
pub once_there : (c k e bound : ℕ) → c ≡ cond (not (eqb k 0) && ltb e bound) 1 0 → 0 < c → (e < bound) × (k ≡ 0 → ⊥)
once_there c k e bound was pos = (grind (arith, nat_tests), λ z. grind (arith, nat_tests))

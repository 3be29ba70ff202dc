-- Numbers that fall one by one: every number below n is among them just where the n-th from the end is n - 1.
use Rattle.std.proofs.Common.{◌≡◌, ℕ, zero, suc, ◌+◌, ◌-◌, ◌<◌, ◌≤◌, sym, ap, ◌∙◌, subst, arith}
use Rattle.versions.specs.Versions.{Enumerates}

module _ {K : ℕ → Type 0} (a : ℕ) (at : ℕ → ℕ) (e : Enumerates a at K) where
  -- a number has room below it for those that follow
  low : (d j : ℕ) → j + d + 1 ≡ a → a ≤ at j + j + 1
  low zero j is = omega arith
  low (suc d) j is = grind (arith, low d (j + 1), e.falls j (j + 1))

  high : (j i : ℕ) → j + i < a → at (j + i) + i ≤ at j
  high j zero below = grind arith
  high j (suc i) below = grind (arith, high j i, e.falls (j + i) (j + i + 1))

  pub all_of : (n : ℕ) → n ≤ a → 0 < n → at (a - n) ≡ n - 1 → (x : ℕ) → x < n → K x
  all_of n le pos is x below =
      let z : (a - n) + (n - 1 - x) ≡ a - 1 - x = omega arith in
      let h = high (a - n) (n - 1 - x) (omega arith) in
      let l = low x (a - 1 - x) (omega arith) in
      let same : at (a - 1 - x) ≡ x = omega (arith, ap at z) in
      subst K same (e.only (a - 1 - x) (omega arith))

  module _ (n : ℕ) (all : (x : ℕ) → x < n → K x) where
    -- the places of the numbers below n rise as the numbers fall
    place : (k : ℕ) → k < n → (i : ℕ) × (i < a) × (at i ≡ n - 1 - k)
    place k l = e.all (n - 1 - k) (all (n - 1 - k) (omega arith))

    rises : (k : ℕ) (pos : 0 < n) (l : k < n) → (i : ℕ) × (i < a) × (at i ≡ n - 1 - k) × ((place 0 pos).0 + k ≤ i)
    rises zero pos l = let p = place 0 pos in (p.0, p.1, p.2, omega arith)
    rises (suc k) pos l =
        let p = rises k pos (omega arith) in
        let q = place (suc k) l in
        (q.0, q.1, q.2, grind (arith, e.falls q.0 p.0))

    pub of_all : 0 < n → (n ≤ a) × (at (a - n) ≡ n - 1)
    of_all pos =
        let p = place 0 pos in
        let r = rises (n - 1) pos (omega arith) in
        let l = low (a - 1 - p.0) p.0 (omega (arith, p.1)) in
        let z : p.0 ≡ a - n = omega (arith, p.1, p.2, r.1, r.3) in
        (omega (arith, r.1, r.3), sym (ap at z) ∙ p.2 ∙ omega arith)

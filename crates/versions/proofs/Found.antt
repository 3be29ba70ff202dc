-- Numbers of one kind, the latest first, as the bound above which they are found goes down.
use Rattle.std.proofs.Common.{◌≡◌, ℕ, ◌+◌, ◌<◌, ◌≤◌, sym, ap, ◌∙◌, subst, inl, inr, arith}
use Rattle.std.proofs.lemmas.Bool.{cases_eq, cases_lt}
use Rattle.versions.specs.Versions.{Enumerates}

-- the same numbers stand elsewhere
pub found_moved : {K : ℕ → Type 0} (n : ℕ) (at to : ℕ → ℕ) → ((i : ℕ) → i < n → to i ≡ at i) → Enumerates n at K → Enumerates n to K
found_moved {K} n at to same o = record {
  falls = λ i j less below. omega (arith, same i (omega arith), same j below, o.falls i j less below);
  only = λ i below. subst K (sym (same i below)) (o.only i below);
  all = λ x h. let p = o.all x h in (p.0, p.1, same p.0 p.1 ∙ p.2);
}

module _ (K : ℕ → Type 0) (n e bound : ℕ) (at to : ℕ → ℕ) (low : e < bound) (gap : (x : ℕ) → e < x → x < bound → K x → ⊥) (same : (i : ℕ) → i < n → to i ≡ at i) (old : Enumerates n at (λ x. K x × (bound ≤ x))) where
  -- e is of the kind, and is put behind the others
  pub found_more : to n ≡ e → K e → Enumerates (n + 1) to (λ x. K x × (e ≤ x))
  found_more last own = record {
    falls = λ i j less below. let up = (old.only i (omega arith)).1 in grind (arith, same i, same j, old.falls i j);
    only = λ i below. elim (cases_eq i n) [
      | inl q ↦ let z : to i ≡ e = ap to q ∙ last in (subst K (sym z) own, omega arith)
      | inr d ↦
          let z = same i (omega arith) in
          let o = old.only i (omega arith) in
          (subst K (sym z) o.0, omega (arith, o.1))
    ];
    all = λ x h. elim (cases_eq x e) [
      | inl q ↦ (n, omega arith, last ∙ sym q)
      | inr d ↦ elim (cases_lt x bound) [
        | inl b ↦ absurd (gap x (omega (arith, h.1)) b h.0)
        | inr b ↦ let o = old.all x (h.0, b) in (o.0, omega (arith, o.1), same o.0 o.1 ∙ o.2)
      ]
    ];
  }

  -- e is not of the kind
  pub found_same : (K e → ⊥) → Enumerates n to (λ x. K x × (e ≤ x))
  found_same not = record {
    falls = λ i j less below. omega (arith, same i (omega arith), same j below, old.falls i j less below);
    only = λ i below.
        let z = same i below in
        let o = old.only i below in
        (subst K (sym z) o.0, omega (arith, o.1));
    all = λ x h. elim (cases_eq x e) [
      | inl q ↦ absurd (not (subst K q h.0))
      | inr d ↦ elim (cases_lt x bound) [
        | inl b ↦ absurd (gap x (omega (arith, h.1)) b h.0)
        | inr b ↦ let o = old.all x (h.0, b) in (o.0, o.1, same o.0 o.1 ∙ o.2)
      ]
    ];
  }

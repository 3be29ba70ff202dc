-- What two marks joined say, and marks joined to those of one event after another.
use Rattle.std.proofs.Common.{◌≡◌, ℕ, cond, eqb, ◌⊎◌, sym, ◌∙◌, subst, inl, inr, arith}
use Rattle.std.proofs.lemmas.Bool.{cases_eq, eq-eqb, ne_eqb}
use Rattle.std.proofs.lemmas.Bool.Decides.{nat_tests}
use Rattle.versions.specs.Marks.{join, Spread}

pub join_cases : (a m : ℕ) → ((a ≡ 0) × (join a m ≡ m)) ⊎ (((a ≡ m) × (join a m ≡ a)) ⊎ ((a ≡ 0 → ⊥) × (a ≡ m → ⊥) × (join a m ≡ 3)))
join_cases a m = elim (cases_eq a 0) [
  | inl e ↦ inl (e, rw (eq-eqb a 0 e))
  | inr n ↦ elim (cases_eq a m) [
    | inl e ↦ inr (inl (e, rw (ne_eqb a 0 n, eq-eqb a m e)))
    | inr k ↦ inr (inr (n, k, rw (ne_eqb a 0 n, ne_eqb a m k)))
  ]
]

pub join_some : (a m : ℕ) → (m ≡ 0 → ⊥) → join a m ≡ 0 → ⊥
join_some a m nz z = grind (arith, nat_tests)

-- one event gets a mark besides
module _ (e m : ℕ) (old new : ℕ → ℕ) (nz : m ≡ 0 → ⊥) (is : (x : ℕ) → new x ≡ cond (eqb x e) (join (old e) m) (old x)) where
  pub joined_own : new e ≡ join (old e) m
  joined_own = grind (arith, nat_tests, is e)

  pub joined_other : (x : ℕ) → (x ≡ e → ⊥) → new x ≡ old x
  joined_other x n = grind (arith, nat_tests, is x)

  -- the same events have marks, where this one had one
  pub joined_some : (old e ≡ 0 → ⊥) → (x : ℕ) → eqb (new x) 0 ≡ eqb (old x) 0
  joined_some some x = grind (arith, nat_tests, is x)

  pub spread_one : Spread (λ x. x ≡ e) m old new
  spread_one = record {
    keeps = λ other x low h. ((λ z. grind (arith, nat_tests, is x)), (λ z. grind (arith, nat_tests, is x)));
    takes = λ other x low q h. ((λ z. grind (arith, nat_tests, is x)), (λ z. grind (arith, nat_tests, is x)));
    from = λ other x low h. elim (cases_eq (old x) 0) [
      | inl z ↦ inr (grind (arith, nat_tests, is x), (nz, λ r. h.1 (grind (arith, nat_tests, is x))))
      | inr n ↦ elim (cases_eq (old x) other) [
        | inl q ↦ inr (grind (arith, nat_tests, is x), (nz, λ r. h.1 (grind (arith, nat_tests, is x))))
        | inr k ↦ inl (n, k)
      ]
    ];
    others = joined_other;
  }

-- one event more gets the mark
pub spread_more : {P Q : ℕ → Type 0} (e m : ℕ) (old mid new : ℕ → ℕ) → ((x : ℕ) → P x → Q x) → Q e → ((x : ℕ) → Q x → P x ⊎ (x ≡ e)) → Spread P m old mid → Spread (λ x. x ≡ e) m mid new → Spread Q m old new
spread_more {Q = Q} e m old mid new more own back a b = record {
  keeps = λ other x low h. b.keeps other x low (a.keeps other x low h);
  takes = λ other x low q h. elim (back x q) [
    | inl p ↦ b.keeps other x low (a.takes other x low p h)
    | inr r ↦ b.takes other x low r h
  ];
  from = λ other x low h. elim (b.from other x low h) [
    | inl g ↦ elim (a.from other x low g) [ inl f ↦ inl f | inr f ↦ inr (more x f.0, f.1) ]
    | inr g ↦ inr (subst Q (sym g.0) own, g.1)
  ];
  others = λ x n. b.others x (λ r. n (subst Q (sym r) own)) ∙ a.others x (λ p. n (more x p));
}

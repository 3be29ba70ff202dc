-- Counted values: a list that has no value oftener than another is not longer.
use Rattle.std.proofs.Common.{◌≡◌, ℕ, suc, ◌+◌, ◌≤◌, Bool, true, false, cond, eqb, ◌⊎◌, List, [], ◌∷◌, ◌++◌, length, sum_by, sym, refl, ap, ◌∙◌, inl, inr, arith}
use Rattle.std.specs.List.Sorted.{IsPermutation}
use Rattle.std.proofs.lemmas.List.Sums.{sum_by-cons}
use Rattle.std.proofs.lemmas.List.Sorted.{sum_by-IsPermutation}
use Rattle.std.proofs.lemmas.Bool.{cases_Bool, eqb-true, eq-eqb}
use Rattle.events.specs.declared.name.Name.{Name}
use Rattle.fugue.specs.Names.{same, has, ◌∈◌}
use Rattle.fugue.proofs.Names.{same_name, same_own, has_in, in_has}
use Rattle.archive.specs.Times.{times, times_named, times_numbered}

module _ {X : Type 0} (alike : X → X → Bool) (is : (a b : X) → alike a b ≡ true → a ≡ b) (own : (a : X) → alike a a ≡ true) where
  -- the list without the first x
  abbrev without : X → List X → List X
  without x [] = []
  without x (y ∷ ys) = cond (alike y x) ys (y ∷ without x ys)

  without_one : (x : X) (ys : List X) → 1 ≤ times alike ys x
      → (length ys ≡ suc (length (without x ys))) × ((z : X) → times alike ys z ≡ cond (alike x z) 1 0 + times alike (without x ys) z)
  without_one x [] h = absurd (omega arith)
  without_one x (y ∷ ys) h = go (alike y x) refl h (without_one x ys)
    where
      go : (b : Bool) → alike y x ≡ b → 1 ≤ cond b 1 0 + times alike ys x
          → (1 ≤ times alike ys x → (length ys ≡ suc (length (without x ys))) × ((z : X) → times alike ys z ≡ cond (alike x z) 1 0 + times alike (without x ys) z))
          → (suc (length ys) ≡ suc (length (cond b ys (y ∷ without x ys))))
          × ((z : X) → cond (alike y z) 1 0 + times alike ys z ≡ cond (alike x z) 1 0 + times alike (cond b ys (y ∷ without x ys)) z)
      go true e k ih = (refl, λ z. ap (λ v. cond (alike v z) 1 0 + times alike ys z) (is y x e))
      go false e k ih = let r = ih (omega (arith, k)) in (ap suc r.0, λ z. let q = r.1 z in omega (arith, q))

  pub fewer : (xs ys : List X) → ((x : X) → times alike xs x ≤ times alike ys x) → length xs ≤ length ys
  fewer [] ys h = omega arith
  fewer (x ∷ xs) ys h =
      let k : 1 + times alike xs x ≤ times alike ys x = rw (own x) at (h x) in
      let r = without_one x ys (omega arith) in
      let ih = fewer xs (without x ys) (λ z. let m = h z in let q = r.1 z in omega (arith, m, q)) in
      let l = r.0 in
      omega (arith, ih, l)

  pub times_in : (xs : List X) (x : X) → x ∈ xs → 1 ≤ times alike xs x
  times_in [] x i = elim i [ ]
  times_in (y ∷ xs) x (inl e) = let k : alike y x ≡ true = rw e (own y) in rw k (omega arith)
  times_in (y ∷ xs) x (inr i) = let ih = times_in xs x i in omega (arith, ih)

  pub in_times : (xs : List X) (x : X) → 1 ≤ times alike xs x → x ∈ xs
  in_times [] x h = absurd (omega arith)
  in_times (y ∷ xs) x h = elim (cases_Bool (alike y x)) [
    | inl e ↦ inl (sym (is y x e))
    | inr e ↦ inr (in_times xs x (let k : 1 ≤ 0 + times alike xs x = rw e at h in omega (arith, k)))
  ]

  pub times_append : (xs ys : List X) (x : X) → times alike (xs ++ ys) x ≡ times alike xs x + times alike ys x
  times_append [] ys x = omega arith
  times_append (z ∷ xs) ys x = let ih = times_append xs ys x in omega (arith, ih)

  times_sum : (xs : List X) (x : X) → times alike xs x ≡ sum_by (λ y. cond (alike y x) 1 0) xs
  times_sum [] x = refl
  times_sum (y ∷ xs) x = let ih = times_sum xs x in let s = sum_by-cons (λ y. cond (alike y x) 1 0) y xs in ap (λ v. cond (alike y x) 1 0 + v) ih ∙ sym s

  pub times_shuffled : (xs ys : List X) (x : X) → IsPermutation xs ys → times alike ys x ≡ times alike xs x
  times_shuffled xs ys x s = times_sum ys x ∙ sum_by-IsPermutation (λ y. cond (alike y x) 1 0) xs ys s ∙ sym (times_sum xs x)

  -- whether a value is another counts one or nothing
  pub one_or_none : (x y : X) → ((x ≡ y) × (◌≡◌ {A = ℕ} (cond (alike x y) 1 0) 1)) ⊎ (((x ≡ y) → ⊥) × (◌≡◌ {A = ℕ} (cond (alike x y) 1 0) 0))
  one_or_none x y = elim (cases_Bool (alike x y)) [
    | inl e ↦ inl (is x y e, rw e refl)
    | inr e ↦ inr ((λ q. let k : alike x y ≡ true = rw (sym q) (own x) in (let z : ◌≡◌ {A = Bool} true false = sym k ∙ e in let o : ◌≡◌ {A = ℕ} 0 1 = cc in omega arith)), rw e refl)
  ]

-- ---- at event numbers

eqb_is : (a b : ℕ) → eqb a b ≡ true → a ≡ b
eqb_is a b e = eqb-true a b e

eqb_own : (a : ℕ) → eqb a a ≡ true
eqb_own a = eq-eqb a a refl

pub fewer_numbers : (xs ys : List ℕ) → ((x : ℕ) → times_numbered xs x ≤ times_numbered ys x) → length xs ≤ length ys
fewer_numbers = fewer eqb eqb_is eqb_own

pub one_number : (x y : ℕ) → ((x ≡ y) × (◌≡◌ {A = ℕ} (cond (eqb x y) 1 0) 1)) ⊎ (((x ≡ y) → ⊥) × (◌≡◌ {A = ℕ} (cond (eqb x y) 1 0) 0))
one_number = one_or_none eqb eqb_is eqb_own

-- ---- at names

pub fewer_names : (xs ys : List Name) → ((x : Name) → times_named xs x ≤ times_named ys x) → length xs ≤ length ys
fewer_names = fewer same same_name same_own

pub one_name : (x y : Name) → ((x ≡ y) × (◌≡◌ {A = ℕ} (cond (same x y) 1 0) 1)) ⊎ (((x ≡ y) → ⊥) × (◌≡◌ {A = ℕ} (cond (same x y) 1 0) 0))
one_name = one_or_none same same_name same_own

pub named_in : (xs : List Name) (x : Name) → x ∈ xs → 1 ≤ times_named xs x
named_in = times_in same same_name same_own

pub in_named : (xs : List Name) (x : Name) → 1 ≤ times_named xs x → x ∈ xs
in_named = in_times same same_name same_own

pub named_append : (xs ys : List Name) (x : Name) → times_named (xs ++ ys) x ≡ times_named xs x + times_named ys x
named_append = times_append same same_name same_own

pub named_shuffled : (xs ys : List Name) (x : Name) → IsPermutation xs ys → times_named ys x ≡ times_named xs x
named_shuffled = times_shuffled same same_name same_own

pub has_times : (xs : List Name) (x : Name) → has xs x ≡ true → 1 ≤ times_named xs x
has_times xs x h = named_in xs x (has_in xs x h)

pub times_has : (xs : List Name) (x : Name) → 1 ≤ times_named xs x → has xs x ≡ true
times_has xs x h = in_has xs x (in_named xs x h)

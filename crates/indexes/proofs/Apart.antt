-- Lists of numbers in which none stands twice.
use Rattle.std.proofs.Common.{◌≡◌, ℕ, zero, suc, Bool, true, false, cond, List, [], ◌∷◌, is_some, Some, None, filter, Option, sym, refl, subst, arith}
use Rattle.std.specs.List.{insert}
use Rattle.std.proofs.ByRecursion.{All-get_or, All-from_get_or}
use Rattle.std.proofs.lemmas.Bool.{both_ways, eqb-false}
use Rattle.std.proofs.lemmas.List.{map-append, take-map, drop-map}
use Rattle.indexes.specs.declared.entry.Entry.{Entry}
use Rattle.indexes.specs.Laws.{Distinct, Away, Apart}
use Rattle.indexes.specs.Questions.{characters, place_of, find, hit, shifted}
use Rattle.indexes.specs.Entries.{has}

pub apart : (cs : List ℕ) → Distinct cs → Apart cs
apart [] h = tt
apart (c ∷ cs) h =
    (All-from_get_or (λ d. d ≡ c → ⊥) cs 0 (λ i within e. h 0 (suc i) (omega arith) (omega arith) (sym e)), apart cs (λ i j lt within e. h (suc i) (suc j) (omega arith) (omega arith) e))

pub distinct : (cs : List ℕ) → Apart cs → Distinct cs
distinct [] a i j lt within e = omega arith
distinct (c ∷ cs) a i zero lt within e = omega arith
distinct (c ∷ cs) a zero (suc j) lt within e =
    All-get_or (λ d. d ≡ c → ⊥) cs j 0 (omega arith) a.0 (sym e)
distinct (c ∷ cs) a (suc i) (suc j) lt within e = distinct cs a.1 i j (omega arith) (omega arith) e

pub away_inserted : (c d : ℕ) (cs : List ℕ) (i : ℕ) → (d ≡ c → ⊥) → Away c cs → Away c (insert cs i d)
away_inserted c d cs zero ne a = (ne, a)
away_inserted c d [] (suc i) ne a = (ne, tt)
away_inserted c d (x ∷ cs) (suc i) ne a = (a.0, away_inserted c d cs i ne a.1)

pub apart_inserted : (c : ℕ) (cs : List ℕ) (i : ℕ) → Away c cs → Apart cs → Apart (insert cs i c)
apart_inserted c cs zero new a = (new, a)
apart_inserted c [] (suc i) new a = (tt, tt)
apart_inserted c (x ∷ cs) (suc i) new a =
    (away_inserted x c cs i (λ e. new.0 (sym e)) a.0, apart_inserted c cs i new.1 a.1)

pub away_kept : (p : Entry → Bool) (c : ℕ) (es : List Entry) → Away c (characters es) → Away c (characters (filter p es))
away_kept p c [] a = tt
away_kept p c (e ∷ es) a =
    elim (p e) as (λ b. Away c (characters (cond b (e ∷ filter p es) (filter p es)))) [
      | true ↦ (a.0, away_kept p c es a.1)
      | false ↦ away_kept p c es a.1
    ]

pub apart_kept : (p : Entry → Bool) (es : List Entry) → Apart (characters es) → Apart (characters (filter p es))
apart_kept p [] a = tt
apart_kept p (e ∷ es) a =
    elim (p e) as (λ b. Apart (characters (cond b (e ∷ filter p es) (filter p es)))) [
      | true ↦ (away_kept p e.character es a.0, apart_kept p es a.1)
      | false ↦ apart_kept p es a.1
    ]

pub characters_inserted : (es : List Entry) (i : ℕ) (e : Entry) → characters (insert es i e) ≡ insert (characters es) i e.character
characters_inserted es i e = simp (map-append, take-map, drop-map)

-- a character that is not found is not listed
unfound : (b : Bool) (rest : ℕ → Option ℕ) → is_some (cond b (hit 0 rest) (shifted 1 (rest 0))) ≡ false → (b ≡ false) × (is_some (rest 0) ≡ false)
unfound true rest is = absurd (both_ways true is refl)
unfound false rest is = (refl, some (rest 0) is)
  where
    some : (r : Option ℕ) → is_some (shifted 1 r) ≡ false → is_some r ≡ false
    some None e = refl
    some (Some k) e = e

pub away_unfound : (c : ℕ) (es : List Entry) → is_some (place_of es c) ≡ false → Away c (characters es)
away_unfound c [] is = tt
away_unfound c (e ∷ es) is =
    let u = unfound (has c e) (find (has c) es) is in
    (eqb-false e.character c u.0, away_unfound c es u.1)

pub distinct_inserted : (es : List Entry) (i : ℕ) (e : Entry) → is_some (place_of es e.character) ≡ false → Distinct (characters es) → Distinct (characters (insert es i e))
distinct_inserted es i e new d =
    let a = apart_inserted e.character (characters es) i (away_unfound e.character es new) (apart (characters es) d) in
    subst Distinct (sym (characters_inserted es i e)) (distinct (insert (characters es) i e.character) a)

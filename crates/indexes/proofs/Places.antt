-- Where a character stands: in a list without doubles, and after a put.
use Rattle.std.proofs.Common.{◌≡◌, ℕ, zero, suc, ◌+◌, ◌<◌, ◌≤◌, true, false, List, [], ◌∷◌, length, get_or, take, drop, is_some, Some, None, sym, refl, ap, ◌∙◌, subst, add-zero, arith, eq-eqb, ne_eqb}
use Rattle.std.proofs.lemmas.Bool.Decides.{nat_tests}
use Rattle.indexes.specs.Changes.{can_put}
use Rattle.std.specs.List.{insert}
use Rattle.std.proofs.ByRecursion.{All-take}
use Rattle.std.proofs.lemmas.List.{take-map, length-take-le}
use Rattle.indexes.specs.declared.entry.Entry.{Entry}
use Rattle.indexes.specs.Entries.{has}
use Rattle.indexes.specs.Laws.{Distinct, Away, Apart}
use Rattle.indexes.specs.Questions.{count, find, shifted, characters, place_of}
use Rattle.indexes.proofs.Apart.{apart, away_unfound}
use Rattle.indexes.proofs.Finds.{find_at, find_none, find_right}

pub count_away : (c : ℕ) (es : List Entry) → Away c (characters es) → count (has c) es ≡ 0
count_away c [] a = refl
count_away c (e ∷ es) a = let ih = count_away c es a.1 in rw (ne_eqb e.character c a.0) (omega (arith, ih))

pub place_of_away : (c : ℕ) (es : List Entry) → Away c (characters es) → place_of es c ≡ None
place_of_away c es a = find_none (has c) es 0 (omega (arith, count_away c es a))

-- the entries before one of another character
away_before : (es : List Entry) (k : ℕ) (d : Entry) → k < length es → Apart (characters es) → Away (get_or es k d).character (characters (take k es))
away_before [] k d within a = absurd (omega arith)
away_before (e ∷ es) zero d within a = tt
away_before (e ∷ es) (suc k) d within a =
    (λ same. away_at es k (omega arith) (subst (λ c. Away c (characters es)) same a.0), away_before es k d (omega arith) a.1)
  where
    away_at : (es : List Entry) (k : ℕ) → k < length es → Away (get_or es k d).character (characters es) → ⊥
    away_at [] k within b = omega arith
    away_at (x ∷ xs) zero within b = b.0 refl
    away_at (x ∷ xs) (suc k) within b = away_at xs k (omega arith) b.1

-- in a list without doubles a character stands where it was seen
pub place_of_at : (es : List Entry) (k c : ℕ) (d : Entry) → Distinct (characters es) → k < length es → (get_or es k d).character ≡ c → place_of es c ≡ Some k
place_of_at es k c d distinct within is =
    let away = subst (λ n. Away n (characters (take k es))) is (away_before es k d within (apart (characters es) distinct)) in
    ap (find (has c) es) (sym (count_away c (take k es) away)) ∙ find_at (has c) es k d within (eq-eqb _ _ is)

first : (c : ℕ) (e : Entry) (es : List Entry) → e.character ≡ c → place_of (e ∷ es) c ≡ Some 0
first c e es is = rw (eq-eqb e.character c is)

-- a character that was put stands where it was put
pub place_of_put : (es : List Entry) (i : ℕ) (e : Entry) → i ≤ length es → is_some (place_of es e.character) ≡ false → place_of (insert es i e) e.character ≡ Some i
place_of_put es i e within new =
    let c = e.character in
    let away : Away c (characters (take i es)) = subst (Away c) (take-map (λ (x : Entry). x.character) i es) (All-take (λ d. d ≡ c → ⊥) i (characters es) (away_unfound c es new)) in
    let none = count_away c (take i es) away in
    let here = find_right (has c) (take i es) (e ∷ drop i es) 0 in
    let at : find (has c) (insert es i e) 0 ≡ shifted (length (take i es)) (place_of (e ∷ drop i es) c) =
    ap (find (has c) (insert es i e)) (sym (ap (λ n. n + 0) none ∙ add-zero 0)) ∙ here in
    at ∙ ap (shifted (length (take i es))) (first c e (drop i es) refl) ∙ ap Some (add-zero (length (take i es)) ∙ length-take-le i es within)

-- what a put that is taken shows
pub put_parts : (es : List Entry) (room place c : ℕ) → can_put es room place c ≡ true → (place ≤ length es) × (is_some (place_of es c) ≡ false) × (length es < room)
put_parts es room place c is = grind (arith, nat_tests)

-- what refuses a put, and what makes one

pub put_past : (es : List Entry) (room place c : ℕ) → length es < place → can_put es room place c ≡ false
put_past es room place c past = grind (arith, nat_tests)

pub put_full : (es : List Entry) (room place c : ℕ) → room ≤ length es → can_put es room place c ≡ false
put_full es room place c full = grind (arith, nat_tests)

pub put_listed : (es : List Entry) (room place c : ℕ) → is_some (place_of es c) ≡ true → can_put es room place c ≡ false
put_listed es room place c is = grind (arith, nat_tests)

pub put_made : (es : List Entry) (room place c : ℕ) → place ≤ length es → is_some (place_of es c) ≡ false → length es < room → can_put es room place c ≡ true
put_made es room place c within new free = grind (arith, nat_tests)

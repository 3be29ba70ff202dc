-- One entry changed.
use Rattle.std.proofs.Common.{◌≡◌, ℕ, zero, suc, ◌<◌, ◌≤◌, List, [], ◌∷◌, length, get_or, set, sym, refl, ap, subst, arith}
use Rattle.indexes.specs.declared.entry.Entry.{Entry}
use Rattle.indexes.specs.Laws.{Distinct}
use Rattle.indexes.specs.Questions.{characters}
use Rattle.indexes.specs.Changes.{at_place}

-- the write of a changed element
pub set_at_place : (f : Entry → Entry) (xs : List Entry) (i : ℕ) (e d : Entry) → i < length xs → e ≡ f (get_or xs i d) → set xs i e ≡ at_place f xs i
set_at_place f [] i e d within is = refl
set_at_place f (x ∷ xs) zero e d within is = ap (λ y. y ∷ xs) is
set_at_place f (x ∷ xs) (suc i) e d within is = ap (λ ys. x ∷ ys) (set_at_place f xs i e d (omega arith) is)

pub at_place_past : (f : Entry → Entry) (xs : List Entry) (i : ℕ) → length xs ≤ i → at_place f xs i ≡ xs
at_place_past f [] i past = refl
at_place_past f (x ∷ xs) zero past = absurd (omega arith)
at_place_past f (x ∷ xs) (suc i) past = ap (λ ys. x ∷ ys) (at_place_past f xs i (omega arith))

pub length_at_place : (f : Entry → Entry) (xs : List Entry) (i : ℕ) → length (at_place f xs i) ≡ length xs
length_at_place f [] i = refl
length_at_place f (x ∷ xs) zero = refl
length_at_place f (x ∷ xs) (suc i) = ap suc (length_at_place f xs i)

-- a change that keeps each character keeps all
pub characters_at_place : (f : Entry → Entry) → ((e : Entry) → (f e).character ≡ e.character) → (xs : List Entry) (i : ℕ) → characters (at_place f xs i) ≡ characters xs
characters_at_place f keeps [] i = refl
characters_at_place f keeps (x ∷ xs) zero = ap (λ c. c ∷ characters xs) (keeps x)
characters_at_place f keeps (x ∷ xs) (suc i) = ap (λ cs. x.character ∷ cs) (characters_at_place f keeps xs i)

-- a write that leaves the character as it is
characters_set : (xs : List Entry) (i : ℕ) (e d : Entry) → e.character ≡ (get_or xs i d).character → characters (set xs i e) ≡ characters xs
characters_set [] i e d same = refl
characters_set (x ∷ xs) zero e d same = ap (λ c. c ∷ characters xs) same
characters_set (x ∷ xs) (suc i) e d same = ap (λ cs. x.character ∷ cs) (characters_set xs i e d same)

pub distinct_set : (xs : List Entry) (i : ℕ) (e d : Entry) → e.character ≡ (get_or xs i d).character → Distinct (characters xs) → Distinct (characters (set xs i e))
distinct_set xs i e d same h = subst Distinct (sym (characters_set xs i e d same)) h

-- what a write in place asks: the list that it makes, a place behind the end, no character twice
pub ruleset written = (set_at_place, at_place_past, distinct_set)

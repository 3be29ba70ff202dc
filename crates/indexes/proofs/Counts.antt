-- How many entries pass a test, in a list that is made of others.
use Rattle.std.proofs.Common.{◌≡◌, ℕ, ◌+◌, ◌<◌, ◌≤◌, Bool, true, false, cond, List, [], ◌∷◌, ◌++◌, length, get_or, take, drop, sym, refl, ap, ◌∙◌, zero-add, arith}
use Rattle.std.proofs.lemmas.List.{take_more, take-append-drop}
use Rattle.std.specs.List.{count_by}
use Rattle.std.proofs.lemmas.List.Sums.{count_by-le-length}
use Rattle.std.proofs.lemmas.List.Recursion.{is_count_by}
use Rattle.indexes.specs.declared.entry.Entry.{Entry}
use Rattle.indexes.specs.Questions.{bit, count}

pub count_append : (p : Entry → Bool) (xs ys : List Entry) → count p (xs ++ ys) ≡ count p xs + count p ys
count_append p [] ys = sym (zero-add (count p ys))
count_append p (x ∷ xs) ys = let ih = count_append p xs ys in omega (arith, ih)

-- one more entry
pub count_more : (p : Entry → Bool) (xs : List Entry) (i : ℕ) (d : Entry) → i < length xs → count p (take (i + 1) xs) ≡ count p (take i xs) + bit (p (get_or xs i d))
count_more p xs i d within =
    ap (count p) (take_more xs i d within) ∙ count_append p (take i xs) (get_or xs i d ∷ []) ∙ ap (λ n. count p (take i xs) + n) (omega arith)

-- the same, by the answer of the element's test
pub count_here : (p : Entry → Bool) (xs : List Entry) (i : ℕ) (d : Entry) (b : Bool) → i < length xs → b ≡ p (get_or xs i d) → count p (take (i + 1) xs) ≡ count p (take i xs) + bit b
count_here p xs i d b within test =
    count_more p xs i d within ∙ ap (λ v. count p (take i xs) + bit v) (sym test)

-- the same at an element that was read, by the answer of its test
pub count_read : (p : Entry → Bool) (xs : List Entry) (i : ℕ) (e : Entry) (b : Bool) → i < length xs → e ≡ get_or xs i e → b ≡ p e → count p (take (i + 1) xs) ≡ count p (take i xs) + bit b
count_read p xs i e b within read test = count_here p xs i e b within (test ∙ ap p read)

-- the number as the library counts it
pub count_is : (p : Entry → Bool) (xs : List Entry) → count p xs ≡ count_by p xs
count_is p xs = is_count_by (count p) p refl (λ x ys. one (p x) (count p ys)) xs
  where
    one : (b : Bool) (n : ℕ) → bit b + n ≡ cond b (1 + n) n
    one true n = refl
    one false n = zero-add n

pub bit_small : (b : Bool) → bit b ≤ 1
bit_small true = omega arith
bit_small false = omega arith

pub count_le_length : (p : Entry → Bool) (xs : List Entry) → count p xs ≤ length xs
count_le_length p xs = rw (count_is p xs) (count_by-le-length p xs)

pub count_take_le : (p : Entry → Bool) (xs : List Entry) (i : ℕ) → count p (take i xs) ≤ count p xs
count_take_le p xs i =
    omega (arith, sym (count_append p (take i xs) (drop i xs)) ∙ ap (count p) (take-append-drop i xs))

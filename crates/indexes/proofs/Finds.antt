-- Where the n-th entry that passes a test stands.
use Rattle.std.proofs.Common.{◌≡◌, ℕ, zero, suc, ◌+◌, ◌<◌, ◌≤◌, Bool, true, false, not, cond, ltb, List, [], ◌∷◌, ◌++◌, length, get_or, take, Some, None, Option, filter, map, sym, refl, ap, ◌∙◌, zero-add, add-zero, one-add, arith}
use Rattle.std.proofs.lemmas.Bool.{both_ways}
use Rattle.indexes.specs.declared.entry.Entry.{Entry}
use Rattle.std.specs.List.{position, position_or_len, enumerate_from, slice_get}
use Rattle.std.proofs.lemmas.Bool.Decides.{nat_tests}
use Rattle.indexes.specs.Entries.{has}
use Rattle.indexes.specs.Questions.{bit, count, hit, shifted, find, place_of}

-- behind one entry, where the rest finds its place
behind : (b : Bool) (rest : ℕ → Option ℕ) (n k : ℕ) → rest n ≡ Some k → cond b (hit (bit b + n) rest) (shifted 1 (rest (bit b + n))) ≡ Some (suc k)
behind true rest n k is = rw (one-add n) (ap (shifted 1) is ∙ ap Some (one-add k))
behind false rest n k is = rw (zero-add n) (ap (shifted 1) is ∙ ap Some (one-add k))

first : (b : Bool) (rest : ℕ → Option ℕ) → b ≡ true → cond b (hit 0 rest) (shifted 1 (rest 0)) ≡ Some 0
first true rest is = refl
first false rest is = absurd (both_ways false refl is)

-- an entry that passes stands at the place that is its number among those that pass
pub find_at : (p : Entry → Bool) (xs : List Entry) (k : ℕ) (d : Entry) → k < length xs → p (get_or xs k d) ≡ true → find p xs (count p (take k xs)) ≡ Some k
find_at p [] k d within is = absurd (omega arith)
find_at p (x ∷ xs) zero d within is = first (p x) (find p xs) is
find_at p (x ∷ xs) (suc k) d within is =
    behind (p x) (find p xs) (count p (take k xs)) k (find_at p xs k d (omega arith) is)

none : (b : Bool) (rest : ℕ → Option ℕ) (n m : ℕ) → bit b + m ≤ n → ((j : ℕ) → m ≤ j → rest j ≡ None) → cond b (hit n rest) (shifted 1 (rest n)) ≡ None
none true rest zero m few is = absurd (omega arith)
none true rest (suc n) m few is = ap (shifted 1) (is n (omega arith))
none false rest n m few is = ap (shifted 1) (is n (omega arith))

-- too few entries pass
pub find_none : (p : Entry → Bool) (xs : List Entry) (n : ℕ) → count p xs ≤ n → find p xs n ≡ None
find_none p [] n few = refl
find_none p (x ∷ xs) n few = none (p x) (find p xs) n (count p xs) few (find_none p xs)

-- in two lists, one behind the other

left_step : (b : Bool) (r s : ℕ → Option ℕ) (n m : ℕ) → n < bit b + m → ((j : ℕ) → j < m → r j ≡ s j) → cond b (hit n r) (shifted 1 (r n)) ≡ cond b (hit n s) (shifted 1 (s n))
left_step true r s zero m few same = refl
left_step true r s (suc n) m few same = ap (shifted 1) (same n (omega arith))
left_step false r s n m few same = ap (shifted 1) (same n (omega arith))

pub find_left : (p : Entry → Bool) (xs ys : List Entry) (n : ℕ) → n < count p xs → find p (xs ++ ys) n ≡ find p xs n
find_left p [] ys n few = absurd (omega arith)
find_left p (x ∷ xs) ys n few =
    left_step (p x) (find p (xs ++ ys)) (find p xs) n (count p xs) few (find_left p xs ys)

pub shifted_shifted : (a b : ℕ) (r : Option ℕ) → shifted a (shifted b r) ≡ shifted (a + b) r
shifted_shifted a b None = refl
shifted_shifted a b (Some k) = ap Some (omega arith)

pub shifted_zero : (r : Option ℕ) → shifted 0 r ≡ r
shifted_zero None = refl
shifted_zero (Some k) = ap Some (zero-add k)

right_step : (b : Bool) (r : ℕ → Option ℕ) (m n k : ℕ) (found : Option ℕ) → r (m + n) ≡ shifted k found → cond b (hit (bit b + m + n) r) (shifted 1 (r (bit b + m + n))) ≡ shifted (suc k) found
right_step true r m n k found is =
    let e : 1 + m + n ≡ suc (m + n) = omega arith in
    let f : 1 + k ≡ suc k = omega arith in
    ap (λ i. hit i r) e ∙ ap (shifted 1) is ∙ shifted_shifted 1 k found ∙ ap (λ i. shifted i found) f
right_step false r m n k found is =
    let e : 0 + m + n ≡ m + n = omega arith in
    let f : 1 + k ≡ suc k = omega arith in
    ap (λ i. shifted 1 (r i)) e ∙ ap (shifted 1) is ∙ shifted_shifted 1 k found ∙ ap (λ i. shifted i found) f

pub find_right : (p : Entry → Bool) (xs ys : List Entry) (n : ℕ) → find p (xs ++ ys) (count p xs + n) ≡ shifted (length xs) (find p ys n)
find_right p [] ys n = ap (find p ys) (zero-add n) ∙ sym (shifted_zero (find p ys n))
find_right p (x ∷ xs) ys n =
    right_step (p x) (find p (xs ++ ys)) (count p xs) n (length xs) (find p ys n) (find_right p xs ys n)

-- the first place as the library finds it
first_is : (p : Entry → Bool) (xs : List Entry) → find p xs 0 ≡ position p xs
first_is p [] = refl
first_is p (x ∷ xs) = step (p x) (find p xs 0) (position_or_len p xs) (length xs) (first_is p xs)
  where
    step : (b : Bool) (r : Option ℕ) (k n : ℕ) → r ≡ cond (ltb k n) (Some k) None → cond b (Some 0) (shifted 1 r) ≡ cond (ltb (cond (not b) (1 + k) 0) (suc n)) (Some (cond (not b) (1 + k) 0)) None
    step true r k n is = grind (arith, nat_tests)
    step false r k n is = grind (arith, nat_tests)

-- the place of a character as the library finds it
pub place_of_is : (xs : List Entry) (c : ℕ) → place_of xs c ≡ position (has c) xs
place_of_is xs c = first_is (has c) xs

-- behind one entry of a numbered list
numbered : (b : Bool) (k n : ℕ) (x : Entry) (rest : ℕ → Option ℕ) (qs : List (ℕ × Entry)) → ((m : ℕ) → shifted (k + 1) (rest m) ≡ slice_get (map (λ q. q.0) qs) m) → shifted k (cond b (hit n rest) (shifted 1 (rest n))) ≡ slice_get (map (λ q. q.0) (cond b ((k, x) ∷ qs) qs)) n
numbered true k zero x rest qs is = ap Some (add-zero k)
numbered true k (suc n) x rest qs is = shifted_shifted k 1 (rest n) ∙ is n
numbered false k n x rest qs is = shifted_shifted k 1 (rest n) ∙ is n

find_numbered : (p : Entry → Bool) (xs : List Entry) (k n : ℕ) → shifted k (find p xs n) ≡ slice_get (map (λ q. q.0) (filter (λ q. p q.1) (enumerate_from k xs))) n
find_numbered p [] k n = refl
find_numbered p (x ∷ xs) k n =
    numbered (p x) k n x (find p xs) (filter (λ q. p q.1) (enumerate_from (k + 1) xs)) (find_numbered p xs (k + 1))

-- the n-th place as the library finds it: among the numbers of the entries that pass
pub find_is : (p : Entry → Bool) (xs : List Entry) (n : ℕ) → find p xs n ≡ slice_get (map (λ q. q.0) (filter (λ q. p q.1) (enumerate_from 0 xs))) n
find_is p xs n = sym (shifted_zero (find p xs n)) ∙ find_numbered p xs 0 n

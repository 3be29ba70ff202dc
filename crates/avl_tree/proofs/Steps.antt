-- In-order lists around a root: what stands where, counts, places and one change.
use Rattle.std.proofs.Common.{◌≡◌, ℕ, zero, suc, ◌+◌, ◌-◌, ◌<◌, Bool, true, false, cond, List, [], ◌∷◌, ◌++◌, length, take, Some, Option, sym, refl, ap, ◌∙◌, add-zero, arith}
use Rattle.std.specs.List.{slice_get}
use Rattle.indexes.specs.declared.entry.Entry.{Entry}
use Rattle.indexes.specs.Changes.{at_place}
use Rattle.indexes.specs.Questions.{bit, count, find, hit, shifted}
use Rattle.indexes.proofs.Counts.{count_append}
use Rattle.indexes.proofs.Finds.{find_right, shifted_shifted}

-- what stands at a place
pub nth_left : {X : Type 0} (xs ys : List X) (i : ℕ) → i < length xs → slice_get (xs ++ ys) i ≡ slice_get xs i
nth_left [] ys i within = absurd (omega arith)
nth_left (x ∷ xs) ys zero within = refl
nth_left (x ∷ xs) ys (suc i) within = nth_left xs ys i (omega arith)

pub nth_mid : {X : Type 0} (xs : List X) (y : X) (ys : List X) (i : ℕ) → i ≡ length xs → slice_get (xs ++ y ∷ ys) i ≡ Some y
nth_mid [] y ys i is = ap (slice_get (y ∷ ys)) is
nth_mid (x ∷ xs) y ys zero is = absurd (omega arith)
nth_mid (x ∷ xs) y ys (suc i) is = nth_mid xs y ys i (omega arith)

pub nth_right : {X : Type 0} (xs : List X) (y : X) (ys : List X) (i : ℕ) → length xs < i → slice_get (xs ++ y ∷ ys) i ≡ slice_get ys (i - length xs - 1)
nth_right [] y ys zero past = absurd (omega arith)
nth_right [] y ys (suc i) past = let e : i ≡ suc i - 0 - 1 = omega arith in ap (slice_get ys) e
nth_right (x ∷ xs) y ys zero past = absurd (omega arith)
nth_right (x ∷ xs) y ys (suc i) past =
    let e : i - length xs - 1 ≡ suc i - suc (length xs) - 1 = omega arith in
    nth_right xs y ys i (omega arith) ∙ ap (slice_get ys) e

-- one entry changed
pub change_left : (f : Entry → Entry) (xs ys : List Entry) (i : ℕ) → i < length xs → at_place f (xs ++ ys) i ≡ at_place f xs i ++ ys
change_left f [] ys i within = absurd (omega arith)
change_left f (x ∷ xs) ys zero within = refl
change_left f (x ∷ xs) ys (suc i) within = ap (λ zs. x ∷ zs) (change_left f xs ys i (omega arith))

pub change_mid : (f : Entry → Entry) (xs : List Entry) (y : Entry) (ys : List Entry) (i : ℕ) → i ≡ length xs → at_place f (xs ++ y ∷ ys) i ≡ xs ++ f y ∷ ys
change_mid f [] y ys i is = ap (at_place f (y ∷ ys)) is
change_mid f (x ∷ xs) y ys zero is = absurd (omega arith)
change_mid f (x ∷ xs) y ys (suc i) is = ap (λ zs. x ∷ zs) (change_mid f xs y ys i (omega arith))

pub change_right : (f : Entry → Entry) (xs : List Entry) (y : Entry) (ys : List Entry) (i : ℕ) → length xs < i → at_place f (xs ++ y ∷ ys) i ≡ xs ++ y ∷ at_place f ys (i - length xs - 1)
change_right f [] y ys zero past = absurd (omega arith)
change_right f [] y ys (suc i) past = let e : i ≡ suc i - 0 - 1 = omega arith in ap (λ k. y ∷ at_place f ys k) e
change_right f (x ∷ xs) y ys zero past = absurd (omega arith)
change_right f (x ∷ xs) y ys (suc i) past =
    let e : i - length xs - 1 ≡ suc i - suc (length xs) - 1 = omega arith in
    ap (λ zs. x ∷ zs) (change_right f xs y ys i (omega arith) ∙ ap (λ k. xs ++ y ∷ at_place f ys k) e)

-- the first entries
pub take_right : {X : Type 0} (xs : List X) (y : X) (ys : List X) (i : ℕ) → length xs < i → take i (xs ++ y ∷ ys) ≡ xs ++ y ∷ take (i - length xs - 1) ys
take_right [] y ys zero past = absurd (omega arith)
take_right [] y ys (suc i) past = let e : i ≡ suc i - 0 - 1 = omega arith in ap (λ k. y ∷ take k ys) e
take_right (x ∷ xs) y ys zero past = absurd (omega arith)
take_right (x ∷ xs) y ys (suc i) past =
    let e : i - length xs - 1 ≡ suc i - suc (length xs) - 1 = omega arith in
    ap (λ zs. x ∷ zs) (take_right xs y ys i (omega arith) ∙ ap (λ k. xs ++ y ∷ take k ys) e)

pub count_right : (p : Entry → Bool) (xs : List Entry) (y : Entry) (ys : List Entry) (i : ℕ) → length xs < i → count p (take i (xs ++ y ∷ ys)) ≡ count p xs + bit (p y) + count p (take (i - length xs - 1) ys)
count_right p xs y ys i past =
    let e = count_append p xs (y ∷ take (i - length xs - 1) ys) in
    ap (count p) (take_right xs y ys i past) ∙ e ∙ omega arith

-- the n-th that passes, behind a root
next : (b : Bool) (rest : ℕ → Option ℕ) (n m : ℕ) → n ≡ bit b + m → cond b (hit n rest) (shifted 1 (rest n)) ≡ shifted 1 (rest m)
next true rest n m is = let e : n ≡ suc m = omega (arith, is) in ap (λ k. hit k rest) e
next false rest n m is = let e : n ≡ m = omega (arith, is) in ap (λ k. shifted 1 (rest k)) e

pub find_behind : (p : Entry → Bool) (xs : List Entry) (y : Entry) (ys : List Entry) (n m : ℕ) → n ≡ count p xs + (bit (p y) + m) → find p (xs ++ y ∷ ys) n ≡ shifted (length xs + 1) (find p ys m)
find_behind p xs y ys n m is =
    ap (find p (xs ++ y ∷ ys)) is ∙ find_right p xs (y ∷ ys) (bit (p y) + m) ∙ ap (shifted (length xs)) (next (p y) (find p ys) (bit (p y) + m) m refl) ∙ shifted_shifted (length xs) 1 (find p ys m)

here : (b : Bool) (rest : ℕ → Option ℕ) → b ≡ true → cond b (hit 0 rest) (shifted 1 (rest 0)) ≡ Some 0
here true rest is = refl
here false rest is = cc

pub find_mid : (p : Entry → Bool) (xs : List Entry) (y : Entry) (ys : List Entry) (n : ℕ) → n ≡ count p xs → p y ≡ true → find p (xs ++ y ∷ ys) n ≡ Some (length xs)
find_mid p xs y ys n is passes =
    let e : n ≡ count p xs + 0 = omega (arith, is) in
    ap (find p (xs ++ y ∷ ys)) e ∙ find_right p xs (y ∷ ys) 0 ∙ ap (shifted (length xs)) (here (p y) (find p ys) passes) ∙ ap Some (add-zero (length xs))

-- a part found behind a root, from an offset on
pub shifted_behind : (offset place k : ℕ) (r found inner : Option ℕ) → found ≡ shifted (k + 1) inner → place ≡ offset + k → r ≡ shifted (place + 1) inner → r ≡ shifted offset found
shifted_behind offset place k r found inner is at rest =
    let e : place + 1 ≡ offset + (k + 1) = omega (arith, at) in
    rest ∙ ap (λ n. shifted n inner) e ∙ sym (shifted_shifted offset (k + 1) inner) ∙ sym (ap (shifted offset) is)

pub count_take_none : (p : Entry → Bool) (i : ℕ) → count p (take i []) ≡ 0
count_take_none p zero = refl
count_take_none p (suc i) = refl

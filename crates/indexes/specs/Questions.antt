-- What a list of entries answers.
--   bit        a test as a number
--   count      how many entries pass a test
--   find       the place of the n-th entry, from 0, that passes a test
--   place_of   the place of a character
--   before     how many of the entries before a place pass a test, absent beyond the length
--   listed     whether a character has an entry
use Rattle.std.specs.Prelude.{ℕ, zero, suc, ◌+◌, Bool, cond, List, [], ◌∷◌, map, length, take, is_some, Some, None, Option, nat_le}
use Rattle.std.specs.Option.{option_map}
use Rattle.indexes.specs.declared.entry.Entry.{Entry}
use Rattle.indexes.specs.Entries.{has}

abbrev pub characters : List Entry → List ℕ
characters = map (λ e. e.character)

abbrev pub bit : Bool → ℕ
bit b = cond b 1 0

abbrev pub count : (Entry → Bool) → List Entry → ℕ
count p [] = 0
count p (e ∷ es) = bit (p e) + count p es

-- a place counted from n entries further left
abbrev pub shifted : ℕ → Option ℕ → Option ℕ
shifted n r = option_map (λ k. n + k) r

-- one entry passed: the place 0 if none is to be skipped, else what the rest says
abbrev pub hit : ℕ → (ℕ → Option ℕ) → Option ℕ
hit zero rest = Some 0
hit (suc n) rest = shifted 1 (rest n)

abbrev pub find : (Entry → Bool) → List Entry → ℕ → Option ℕ
find p [] n = None
find p (e ∷ es) n = cond (p e) (hit n (find p es)) (shifted 1 (find p es n))

abbrev pub place_of : List Entry → ℕ → Option ℕ
place_of es c = find (has c) es 0

abbrev pub before : (Entry → Bool) → List Entry → ℕ → Option ℕ
before p es place = cond (nat_le place (length es)) (Some (count p (take place es))) None

abbrev pub listed : List Entry → ℕ → Bool
listed es c = is_some (place_of es c)

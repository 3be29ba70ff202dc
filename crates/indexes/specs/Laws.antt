-- What holds of every position index.
use Rattle.std.specs.Prelude.{ℕ, ◌<◌, ◌≤◌, List, [], ◌∷◌, length, ◌≢◌, slice_index}
use Rattle.std.specs.List.{AllByRecursion}
use Rattle.indexes.specs.declared.entry.Entry.{Entry}
use Rattle.indexes.specs.Questions.{characters}

-- no number stands twice
abbrev pub Distinct : List ℕ → Type 0
Distinct cs = (i j : ℕ) → i < j → j < length cs → slice_index cs i ≢ slice_index cs j

-- c is not in the list
abbrev pub Away : ℕ → List ℕ → Type 0
Away c cs = AllByRecursion (λ d. d ≢ c) cs

-- the same as Distinct, number by number: none is among those after it
abbrev pub Apart : List ℕ → Type 0
Apart [] = Unit {0}
Apart (c ∷ cs) = Away c cs × Apart cs

pub record IndexLaws {S : Type 0} (entries : S → List Entry) (room : S → ℕ) : Type 0 where
  pub distinct : (s : S) → Distinct (characters (entries s))
  pub within : (s : S) → length (entries s) ≤ room s
  pub small : (s : S) → room s ≤ 65536

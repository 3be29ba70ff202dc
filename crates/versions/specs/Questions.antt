-- What is asked of versions besides their difference.
--     OneBehind   of some events, an earlier one of the list is a later one or behind it
--     AllBelow    a version has every event below a number
--     Answered    yes or no, or a refusal
use Rattle.std.specs.Prelude.{◌≡◌, ℕ, ◌<◌, Bool, List, [], ◌∷◌, Some, Ok, Err, Decides, Result}
use Rattle.std.specs.List.{slice_get}
use Rattle.events.specs.Parts.{StoredEvent}
use Rattle.events.specs.declared.faults.BookFault.{BookFault}
use Rattle.versions.specs.Versions.{InVersion}

-- x at i is in the version whose one head is y at j; where the numbers rise, no other is behind an earlier one
pub record Covered (es : List StoredEvent) (ps : List ℕ) (i j x y : ℕ) : Type 0 where
  pub apart : i < j
  pub earlier : slice_get ps i ≡ Some x
  pub later : slice_get ps j ≡ Some y
  pub behind : InVersion es (y ∷ []) x

abbrev pub OneBehind : List StoredEvent → List ℕ → Type 0
OneBehind es ps = (i : ℕ) × (j : ℕ) × (x : ℕ) × (y : ℕ) × Covered es ps i j x y

abbrev pub AllBelow : List StoredEvent → List ℕ → ℕ → Type 0
AllBelow es heads n = (x : ℕ) → x < n → InVersion es heads x

abbrev pub Answered : (BookFault → Type 0) → Type 0 → Result Bool BookFault → Type 0
Answered Refusal Fact (Ok answer) = Decides answer Fact
Answered Refusal Fact (Err f) = Refusal f

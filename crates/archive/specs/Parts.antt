-- The work list: four parts, each with one cell for each event that there is room for.
--     slice_index cells i   the event that is written as number i
--     number_of             the archive number of an event
--     first_of, behind_of   the first event that waits at an event, and the one that waits behind an event
--     none                  stands for no event and no number
--     Open, Done            the event is not written; it is
--     ReadyAt               the event is not written and its parents are
--     Chain                 the events that wait in a line, from the first
use Rattle.std.specs.Prelude.{◌≡◌, ℕ, ◌+◌, ◌*◌, ◌<◌, ◌≤◌, List, [], ◌∷◌, length, Some, slice_index}
use Rattle.events.specs.Parts.{StoredEvent}
use Rattle.stores.specs.Questions.{parent_at}

abbrev pub none : ℕ
none = 4294967295

abbrev pub number_of : ℕ → List ℕ → ℕ → ℕ
number_of room cells e = slice_index cells (room + e)

abbrev pub first_of : ℕ → List ℕ → ℕ → ℕ
first_of room cells e = slice_index cells (2 * room + e)

abbrev pub behind_of : ℕ → List ℕ → ℕ → ℕ
behind_of room cells e = slice_index cells (3 * room + e)

abbrev pub Open : List StoredEvent → ℕ → List ℕ → ℕ → Type 0
Open events room cells e = length events ≤ number_of room cells e

abbrev pub Done : List StoredEvent → ℕ → List ℕ → ℕ → Type 0
Done events room cells e = number_of room cells e < length events

abbrev pub ReadyAt : List StoredEvent → ℕ → List ℕ → ℕ → Type 0
ReadyAt events room cells e = Open events room cells e × ((k p : ℕ) → parent_at events e k ≡ Some p → Done events room cells p)

abbrev pub Chain : ℕ → List ℕ → ℕ → List ℕ → Type 0
Chain room cells w [] = w ≡ none
Chain room cells w (v ∷ vs) = (w ≡ v) × Chain room cells (behind_of room cells v) vs

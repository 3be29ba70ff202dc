-- What the calls within leave.
use Rattle.std.specs.Prelude.{◌≡◌, ℕ, ◌<◌, ◌≤◌, List, ◌∷◌, length, take, Some, None, Option, ◌≢◌, slice_index}
use Rattle.events.specs.declared.name.Name.{Name}
use Rattle.events.specs.Parts.{StoredEvent}
use Rattle.stores.specs.Questions.{parent_at}
use Rattle.archive.specs.Parts.{none, number_of, first_of, behind_of, Open, Done}
use Rattle.archive.specs.Waiting.{Waiting}

-- a cell holds a number below count, or stands for none
abbrev pub Held : ℕ → ℕ → Option ℕ → Type 0
Held count cell (Some k) = (k ≡ cell) × (cell < count)
Held count cell None = count ≤ cell

-- one of the listed events that is not written, or nothing where all are
abbrev pub OpenOne : ℕ → ℕ → List ℕ → List ℕ → Option ℕ → Type 0
OpenOne count room cells listed (Some p) = (count ≤ number_of room cells p) × ((k : ℕ) × ((k < length listed) × (slice_index listed k ≡ p)))
OpenOne count room cells listed None = (k : ℕ) → k < length listed → number_of room cells (slice_index listed k) < count

-- nothing is written, and no line has an event
abbrev pub Cleared : List ℕ → ℕ → ℕ → Type 0
Cleared cells room count = (e : ℕ) → e < count → (number_of room cells e ≡ none) × (first_of room cells e ≡ none)

-- no event is written
abbrev pub AllOpen : List StoredEvent → ℕ → List ℕ → Type 0
AllOpen events room cells = (e : ℕ) → e < length events → Open events room cells e

-- a parent that is not written, or nothing where all are
abbrev pub Awaited : List StoredEvent → ℕ → List ℕ → ℕ → Option ℕ → Type 0
Awaited events room cells e (Some p) = (p < length events) × Open events room cells p × ((k : ℕ) × (parent_at events e k ≡ Some p))
Awaited events room cells e None = (k p : ℕ) → parent_at events e k ≡ Some p → Done events room cells p

-- the event e, which was in hand, is in the queue or in a line; nothing else changed but the head of that line
pub record Placed (events : List StoredEvent) (room e : ℕ) (cells : List ℕ) (queue : List Name) (len : ℕ) (cells' : List ℕ) (queue' : List Name) (len' : ℕ) : Type 0 where
  pub behind : (v : ℕ) → v ≢ e → v < room → behind_of room cells' v ≡ behind_of room cells v
  pub settles : (lines : ℕ → List ℕ) (hand : List ℕ) → Waiting events room cells (take len queue) lines (e ∷ hand) → (lines' : ℕ → List ℕ) × Waiting events room cells' (take len' queue') lines' hand

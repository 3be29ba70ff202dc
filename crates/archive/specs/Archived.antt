-- What the archive order of a store's events is, in the cells of a work list.
--     in_order        the named events of a list of event numbers
--     Archived        the cells hold the archive order, and each event's archive number
--     ArchiveAnswer   the answer of the call that computes it
use Rattle.std.specs.Prelude.{◌≡◌, ℕ, ◌+◌, ◌*◌, ◌<◌, ◌≤◌, Bool, ◌⊎◌, List, [], ◌∷◌, length, take, Some, None, Ok, Err, Option, Result, slice_index}
use Rattle.std.specs.List.{flat_map, slice_get}
use Rattle.events.specs.declared.name.Name.{Name}
use Rattle.events.specs.declared.faults.BookFault.{BookFault}
use Rattle.events.specs.Parts.{NamedEvent, StoredEvent}
use Rattle.fugue.specs.Logs.{named_in, log_of}
use Rattle.fugue.specs.Archive.{ArchiveOrder}

abbrev pub listed : List StoredEvent → Option StoredEvent → List NamedEvent
listed events None = []
listed events (Some e) = named_in events e ∷ []

-- the events with the given numbers, one after another, with their parents by name
abbrev pub in_order : List StoredEvent → List ℕ → List NamedEvent
in_order events numbers = flat_map (λ i. listed events (slice_get events i)) numbers

-- the first cells, one for each event, hold the numbers of the events in archive order;
-- the cell `room + e` holds the archive number of event e, its place in that order
pub record Archived (before : Name → Name → Bool) (events : List StoredEvent) (room : ℕ) (cells : List ℕ) : Type 0 where
  pub order : ArchiveOrder before (log_of events) (in_order events (take (length events) cells))
  pub places : (i : ℕ) → i < length events → (slice_index cells i < length events) × (slice_index cells (room + slice_index cells i) ≡ i)
  pub numbers : (e : ℕ) → e < length events → (slice_index cells (room + e) < length events) × (slice_index cells (slice_index cells (room + e)) ≡ e)

-- from the lengths of the two lists and the work list after the call: how many events there are, or which list is too short
abbrev pub ArchiveAnswer : (Name → Name → Bool) → List StoredEvent → ℕ → ℕ → ℕ → List ℕ → Result ℕ BookFault → Type 0
ArchiveAnswer before events room work names cells (Ok r) = (r ≡ length events) × (4 * room ≤ work) × (length events ≤ names) × Archived before events room cells
ArchiveAnswer before events room work names cells (Err (BookFault.Short m)) = ((m ≡ 4 * room) × (work < m)) ⊎ ((m ≡ length events) × (4 * room ≤ work) × (names < m))
ArchiveAnswer before events room work names cells (Err (BookFault.Event f)) = ⊥
ArchiveAnswer before events room work names cells (Err (BookFault.StoreFull m)) = ⊥
ArchiveAnswer before events room work names cells (Err (BookFault.Behind m)) = ⊥
ArchiveAnswer before events room work names cells (Err (BookFault.Beyond m)) = ⊥
ArchiveAnswer before events room work names cells (Err (BookFault.IndexFull m)) = ⊥

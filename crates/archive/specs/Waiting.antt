-- Where the unwritten events are: in the queue, in a line at one of their parents, or in hand.
use Rattle.std.specs.Prelude.{◌≡◌, ℕ, ◌+◌, ◌<◌, ◌≤◌, ◌⊎◌, List, [], ◌∷◌, length, take, Some, ◌≢◌}
use Rattle.events.specs.declared.name.Name.{Name}
use Rattle.events.specs.Parts.{StoredEvent}
use Rattle.stores.specs.Questions.{name_at, parent_at}
use Rattle.archive.specs.Times.{times_named, times_numbered}
use Rattle.archive.specs.Parts.{first_of, Open, ReadyAt, Chain}

-- `queue` are the names in the queue, `lines p` the events that wait at event p, and `hand` those that wait nowhere yet
pub record Waiting (events : List StoredEvent) (room : ℕ) (cells : List ℕ) (queue : List Name) (lines : ℕ → List ℕ) (hand : List ℕ) : Type 0 where
  pub once : (x : Name) → times_named queue x ≤ 1
  pub ready : (x : Name) → 1 ≤ times_named queue x → (w : ℕ) × (name_at events w ≡ Some x) × ReadyAt events room cells w
  pub links : (p : ℕ) → p < length events → Open events room cells p → Chain room cells (first_of room cells p) (lines p)
  pub waits : (p w : ℕ) → 1 ≤ times_numbered (lines p) w → (p < length events) × Open events room cells p × (w < length events) × Open events room cells w × ((k : ℕ) × (parent_at events w k ≡ Some p))
  pub apart : (p q w : ℕ) → p ≢ q → times_numbered (lines p) w + times_numbered (lines q) w ≤ 1
  pub single : (p w : ℕ) → times_numbered hand w + times_numbered (lines p) w ≤ 1
  pub hands : (w : ℕ) → 1 ≤ times_numbered hand w → (w < length events) × Open events room cells w × ((x : Name) → name_at events w ≡ Some x → times_named queue x ≡ 0)
  pub cover : (w : ℕ) (x : Name) → name_at events w ≡ Some x → Open events room cells w → (1 ≤ times_named queue x) ⊎ ((1 ≤ times_numbered hand w) ⊎ ((p : ℕ) × (1 ≤ times_numbered (lines p) w)))

-- every unwritten event is in the queue or in a line
abbrev pub Settled : List StoredEvent → ℕ → List ℕ → List Name → ℕ → Type 0
Settled events room cells queue len = (lines : ℕ → List ℕ) × Waiting events room cells (take len queue) lines []

-- but for those in a line that begins with w
abbrev pub Handed : List StoredEvent → ℕ → List ℕ → List Name → ℕ → ℕ → Type 0
Handed events room cells queue len w = (lines : ℕ → List ℕ) × (hand : List ℕ) × Waiting events room cells (take len queue) lines hand × Chain room cells w hand

-- but for event e, and others
abbrev pub InHand : List StoredEvent → ℕ → List ℕ → List Name → ℕ → ℕ → Type 0
InHand events room cells queue len e = (lines : ℕ → List ℕ) × ((hand : List ℕ) × Waiting events room cells (take len queue) lines (e ∷ hand))

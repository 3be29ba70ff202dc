-- The state of a search from two heads, in its counters and its work list.
--     marks      the mark of each event
--     copies     how often a number stands in a list
--     Listed     the counters fit the work list
--     Queued     the queue has each event below a bound that has a mark, once
--     Noted      what marking some events leaves
--     Taken      what taking the latest event from the queue leaves
--     Written    what writing an event down leaves
--     Knows      what the marks say of a version, of the events from a bound up
--     Stage      all of it, with what has been found
--     Started    the heads are marked
--     Stepped    what a step of the search keeps
use Rattle.std.specs.Prelude.{◌≡◌, ℕ, ◌+◌, ◌-◌, ◌*◌, ◌<◌, ◌≤◌, cond, not, ◌&&◌, ltb, List, length, take, drop, Some, sum_by, Option, ◌==◌, ◌≢◌, nat_lt, slice_index, slice_set}
use Rattle.events.specs.Parts.{StoredEvent}
use Rattle.queue.specs.Heaps.{Heaped}
use Rattle.versions.specs.declared.counters.Counters.{Counters}
use Rattle.versions.specs.Versions.{Head, Parent, InVersion, Enumerates}
use Rattle.versions.specs.Marks.{Marked, mark_in, marked_below, one_sided, Spread}

abbrev pub marks : List ℕ → Counters → ℕ → ℕ
marks w s x = mark_in w s.room s.seen x

abbrev pub copies : ℕ → List ℕ → ℕ
copies x xs = sum_by (λ y. cond (y == x) 1 0) xs

-- how many in a list are marked as of one version alone
abbrev pub open_in : (ℕ → ℕ) → List ℕ → ℕ
open_in m xs = sum_by (λ y. one_sided (m y)) xs

pub record Listed (w : List ℕ) (s : Counters) : Type 0 where
  pub size : 4 * s.room ≤ length w
  pub small : s.room ≤ 65536
  pub seen : s.seen ≡ marked_below (marks w s) s.room
  pub within : s.queued ≤ s.seen

pub record Queued (w : List ℕ) (s : Counters) (bound : ℕ) : Type 0 where
  pub heaped : Heaped (λ a b. ltb b a) w s.queued
  pub once : (x : ℕ) → copies x (take s.queued w) ≡ cond (not (marks w s x == 0) && nat_lt x bound) 1 0
  pub pending : s.pending ≡ open_in (marks w s) (take s.queued w)

-- one of the first k answers
abbrev pub Among : (ℕ → Option ℕ) → ℕ → ℕ → Type 0
Among f k x = (j : ℕ) × (j < k) × (f j ≡ Some x)

pub record Noted (Set : ℕ → Type 0) (m : ℕ) (w : List ℕ) (s : Counters) (v : List ℕ) (r : Counters) : Type 0 where
  pub listed : Listed v r
  pub room : r.room ≡ s.room
  pub found : (r.first ≡ s.first) × (r.second ≡ s.second)
  pub grows : s.queued ≤ r.queued
  pub moved : r.seen + s.queued ≡ s.seen + r.queued
  pub spread : Spread Set m (marks w s) (marks v r)
  pub queued : (bound : ℕ) → ((x : ℕ) → Set x → x < bound) → Queued w s bound → Queued v r bound
  pub kept : (k : ℕ) → r.queued ≤ k → k < s.room → slice_index v k ≡ slice_index w k

-- the latest event e was taken from the queue, and its mark m was read
pub record Taken (w : List ℕ) (s : Counters) (v : List ℕ) (r : Counters) (e m : ℕ) : Type 0 where
  pub listed : Listed v r
  pub fields : (r.room ≡ s.room) × (r.seen ≡ s.seen) × (r.queued + 1 ≡ s.queued) × (r.first ≡ s.first) × (r.second ≡ s.second)
  pub mark : (m ≡ marks w s e) × (m ≢ 0)
  pub marks_same : (x : ℕ) → marks v r x ≡ marks w s x
  pub within : e < s.room
  pub queued : (bound : ℕ) → Queued w s bound → (e < bound) × Queued v r e × ((x : ℕ) → e < x → x < bound → marks w s x ≡ 0)
  pub kept : (k : ℕ) → s.queued ≤ k → slice_index v k ≡ slice_index w k

-- an event with a mark was written down: to the output, to the back of the queue's area, or nowhere
pub record Written (w out : List ℕ) (s : Counters) (e m : ℕ) (v new : List ℕ) (r : Counters) : Type 0 where
  pub first : m ≡ 1 → (v ≡ w) × (new ≡ slice_set out s.first e) × (r ≡ record { room = s.room; seen = s.seen; queued = s.queued; pending = s.pending; first = s.first + 1; second = s.second })
  pub second : m ≡ 2 → (v ≡ slice_set w (s.room - 1 - s.second) e) × (new ≡ out) × (r ≡ record { room = s.room; seen = s.seen; queued = s.queued; pending = s.pending; first = s.first; second = s.second + 1 })
  pub neither : m ≢ 1 → m ≢ 2 → (v ≡ w) × (new ≡ out) × (r ≡ s)

pub record Knows (es : List StoredEvent) (heads : List ℕ) (other : ℕ) (m : ℕ → ℕ) (bound : ℕ) : Type 0 where
  pub sound : (x : ℕ) → Marked other (m x) → InVersion es heads x
  pub starts : (x : ℕ) → Head heads x → Marked other (m x)
  pub closed : (y x : ℕ) → bound ≤ y → Marked other (m y) → Parent es y x → Marked other (m x)

-- from the bound up everything is known: what is in the first version alone stands at the front of the output, and
-- what is in the second alone at the back of the queue's area, backwards
pub record Stage (es : List StoredEvent) (first second w : List ℕ) (out : List ℕ) (s : Counters) (bound : ℕ) : Type 0 where
  pub listed : Listed w s
  pub queued : Queued w s bound
  pub held : length es ≤ s.room
  pub of_first : Knows es first 2 (marks w s) bound
  pub of_second : Knows es second 1 (marks w s) bound
  pub firsts : Enumerates s.first (λ i. slice_index out i) (λ x. (marks w s x ≡ 1) × (bound ≤ x))
  pub seconds : Enumerates s.second (λ i. slice_index w (s.room - 1 - i)) (λ x. (marks w s x ≡ 2) × (bound ≤ x))
  pub few : s.first + s.second + bound ≤ length es
  pub apart : s.queued + s.first + s.second ≤ s.seen

-- the heads of two versions are marked and queued, and no event else
pub record Started (room : ℕ) (first second w : List ℕ) (s : Counters) : Type 0 where
  pub listed : Listed w s
  pub fields : (s.room ≡ room) × (s.first ≡ 0) × (s.second ≡ 0)
  pub from_first : (x : ℕ) → Marked 2 (marks w s x) → Head first x
  pub from_second : (x : ℕ) → Marked 1 (marks w s x) → Head second x
  pub of_first : (x : ℕ) → Head first x → Marked 2 (marks w s x)
  pub of_second : (x : ℕ) → Head second x → Marked 1 (marks w s x)
  pub queued : (bound : ℕ) → ((x : ℕ) → Head first x → x < bound) → ((x : ℕ) → Head second x → x < bound) → Queued w s bound

-- one event less to come; the output changed in front of what was found alone
pub record Stepped (s : Counters) (out : List ℕ) (r : Counters) (new : List ℕ) : Type 0 where
  pub room : r.room ≡ s.room
  pub fewer : r.seen + s.queued ≡ s.seen + r.queued + 1
  pub first : s.first ≤ r.first
  pub kept : drop r.first new ≡ drop r.first out

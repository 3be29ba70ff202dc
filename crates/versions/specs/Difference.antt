-- What the difference of two versions answers, and why it is refused.
--     Known          every head is the number of an event
--     FirstUnknown   the first head that is not
--     HeadsTested    the answer of a test of heads
--     Enough         the lists are long enough
--     Refused        why a call is refused
--     Admitted       the answer of a test of the arguments
--     Differ         the numbers of each version alone, in the front of the output
--     Difference     the answer of a call, and the output after it
use Rattle.std.specs.Prelude.{◌≡◌, ℕ, ◌+◌, ◌*◌, ◌<◌, ◌≤◌, ◌⊎◌, List, length, drop, Some, None, Ok, Err, Option, Result, slice_index}
use Rattle.std.specs.List.{slice_get}
use Rattle.events.specs.Parts.{StoredEvent}
use Rattle.events.specs.declared.faults.EventFault.{EventFault}
use Rattle.events.specs.declared.faults.BookFault.{BookFault}
use Rattle.versions.specs.Versions.{Head, InVersion, OnlyIn, Enumerates}

-- every head is the number of an event
abbrev pub Known : ℕ → List ℕ → Type 0
Known count heads = (x : ℕ) → Head heads x → x < count

-- the place of the first head that is not below the count, or nothing where each is
abbrev pub FirstUnknown : ℕ → List ℕ → Option ℕ → Type 0
FirstUnknown count heads None = Known count heads
FirstUnknown count heads (Some k) = (x : ℕ) × (slice_get heads k ≡ Some x) × (count ≤ x) × ((j y : ℕ) → j < k → slice_get heads j ≡ Some y → y < count)

-- each head is the number of an event, or else the place of the first that is not
abbrev pub HeadsTested : ℕ → List ℕ → Result (Unit {0}) EventFault → Type 0
HeadsTested count heads (Ok u) = Known count heads
HeadsTested count heads (Err (EventFault.Unknown k)) = FirstUnknown count heads (Some k)
HeadsTested count heads (Err (EventFault.File f)) = ⊥
HeadsTested count heads (Err (EventFault.Name k)) = ⊥
HeadsTested count heads (Err (EventFault.Character k)) = ⊥
HeadsTested count heads (Err (EventFault.Held k)) = ⊥
HeadsTested count heads (Err (EventFault.Clash k)) = ⊥
HeadsTested count heads (Err (EventFault.Parents k)) = ⊥

-- the work list and the output have the cells that a call wants
abbrev pub Enough : ℕ → ℕ → ℕ → ℕ → Type 0
Enough count room wide long = (4 * room ≤ wide) × (count ≤ long)

-- why a call is refused, the tests in this order: the work list, the output, the first heads, the second heads
abbrev pub Refused : ℕ → ℕ → List ℕ → List ℕ → ℕ → ℕ → BookFault → Type 0
Refused count room first second wide long (BookFault.Short n) = ((wide < 4 * room) × (n ≡ 4 * room)) ⊎ ((4 * room ≤ wide) × (long < count) × (n ≡ count))
Refused count room first second wide long (BookFault.Event (EventFault.Unknown k)) = Enough count room wide long × (FirstUnknown count first (Some k) ⊎ (Known count first × FirstUnknown count second (Some k)))
Refused count room first second wide long (BookFault.Event (EventFault.File f)) = ⊥
Refused count room first second wide long (BookFault.Event (EventFault.Name k)) = ⊥
Refused count room first second wide long (BookFault.Event (EventFault.Character k)) = ⊥
Refused count room first second wide long (BookFault.Event (EventFault.Held k)) = ⊥
Refused count room first second wide long (BookFault.Event (EventFault.Clash k)) = ⊥
Refused count room first second wide long (BookFault.Event (EventFault.Parents k)) = ⊥
Refused count room first second wide long (BookFault.StoreFull k) = ⊥
Refused count room first second wide long (BookFault.Behind k) = ⊥
Refused count room first second wide long (BookFault.Beyond k) = ⊥
Refused count room first second wide long (BookFault.IndexFull k) = ⊥

-- the answer of a test whether a call is admitted
abbrev pub Admitted : ℕ → ℕ → List ℕ → List ℕ → ℕ → ℕ → Result (Unit {0}) BookFault → Type 0
Admitted count room first second wide long (Ok u) = Enough count room wide long × Known count first × Known count second
Admitted count room first second wide long (Err f) = Refused count room first second wide long f

-- the two counts, a of the first version and b of the second: the numbers in the front of the output
pub record Differ (es : List StoredEvent) (first second out new : List ℕ) (a b : ℕ) : Type 0 where
  pub known : Known (length es) first × Known (length es) second
  pub firsts : Enumerates a (λ i. slice_index new i) (OnlyIn es first second)
  pub seconds : Enumerates b (λ i. slice_index new (a + i)) (OnlyIn es second first)
  pub first_is : (x : ℕ) → InVersion es first x → OnlyIn es first second x ⊎ InVersion es second x
  pub second_is : (x : ℕ) → InVersion es second x → OnlyIn es second first x ⊎ InVersion es first x
  pub few : a + b ≤ length es
  pub kept : drop (a + b) new ≡ drop (a + b) out

-- from the events, the room of the store, the heads, the width of the work list, the output before and after, and the answer
abbrev pub Difference : List StoredEvent → ℕ → List ℕ → List ℕ → ℕ → List ℕ → List ℕ → Result (ℕ × ℕ) BookFault → Type 0
Difference es room first second wide out new (Ok n) = Enough (length es) room wide (length out) × Differ es first second out new n.0 n.1
Difference es room first second wide out new (Err f) = (new ≡ out) × Refused (length es) room first second wide (length out) f

-- What the state of a search says, of a search as the code holds it: the list that is lent to it, and its counters.
--     mark_held     the mark of an event
--     QueueHeld     the queue has each event below a bound that has a mark, once
--     NotedBy       what marking some events leaves
--     TakenBy       what taking the latest event leaves
--     WrittenBy     what writing an event down leaves
--     StageOf       the stage of a search, with the output
use Rattle.std.specs.Prelude.{ℕ, List}
use Rattle.events.specs.Parts.{StoredEvent}
use Rattle.versions.specs.declared.marks.Mark.{Mark}
use Rattle.versions.specs.declared.search.Search.{Search}
use Rattle.versions.specs.Marks.{number_of}
use Rattle.versions.specs.Searches.{marks, Queued, Noted, Taken, Written, Stage}

abbrev pub mark_held : Search → ℕ → ℕ
mark_held s x = marks s.work.now s.counters x

abbrev pub QueueHeld : Search → ℕ → Type 0
QueueHeld s bound = Queued s.work.now s.counters bound

abbrev pub NotedBy : (ℕ → Type 0) → Mark → Search → Search → Type 0
NotedBy Set mark s r = Noted Set (number_of mark) s.work.now s.counters r.work.now r.counters

abbrev pub TakenBy : ℕ → Search → Search → Type 0
TakenBy e s r = Taken s.work.now s.counters r.work.now r.counters e (mark_held s e)

-- from the event, its mark, the search and the output before, and both after
abbrev pub WrittenBy : ℕ → Mark → Search → List ℕ → Search → List ℕ → Type 0
WrittenBy e mark s out r new = Written s.work.now out s.counters e (number_of mark) r.work.now new r.counters

abbrev pub StageOf : List StoredEvent → List ℕ → List ℕ → Search → List ℕ → ℕ → Type 0
StageOf es first second s out bound = Stage es first second s.work.now out s.counters bound

-- The events passed so far are marked.
use Rattle.std.specs.List.{slice_get}
use Rattle.versions.specs.Searches.{Among}
use Rattle.versions.specs.Held.{NotedBy}
use Rattle.versions.proofs.search.Search.note_all.Given as goal

abbrev pub invariant-loop-event : goal.invariant-loop-event
invariant-loop-event l = NotedBy (Among (slice_get l.events) l.event-index) l.mark l.initial.self l.self

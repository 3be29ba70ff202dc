-- Each event is below the bound, so that it may be marked.
use Rattle.std.proofs.Common.{get_or, arith}
use Rattle.std.specs.List.{slice_get}
use Rattle.std.proofs.lemmas.Option.{slice_get-get_or}
use Rattle.versions.specs.Versions.{Head}
use Rattle.versions.specs.Searches.{Among}
use Rattle.versions.proofs.Sets.{noted_step, noted_same, all_heads}
use Rattle.versions.proofs.search.Search.note_all.Goals as goal

pub loop-event-preserved : goal.loop-event-preserved
loop-event-preserved c =
    let xs = c.args.events.now in
    let k = c.loop-event.event-index in
    noted_step (slice_get xs) k (get_or xs k 0) (slice_get-get_or xs k 0 c.loop-event-test.true) c.loop-event.invariant c.note.ensures.after

pub note-requires-clause-queued : goal.note-requires-clause-queued
note-requires-clause-queued c =
    let xs = c.args.events.now in
    let k = c.loop-event.event-index in
    let q = c.requires.queued in
    (q.0, q.2 (get_or xs k 0) (k, slice_get-get_or xs k 0 c.loop-event-test.true), c.loop-event.invariant.queued q.0 (λ x h. q.2 x (h.0, h.2)) q.3)

pub note-requires-clause-inside : goal.note-requires-clause-inside
note-requires-clause-inside c =
    let xs = c.args.events.now in
    let k = c.loop-event.event-index in
    let q = c.requires.queued in
    omega (arith, q.2 (get_or xs k 0) (k, slice_get-get_or xs k 0 c.loop-event-test.true), q.1, c.loop-event.invariant.room)

pub returns : goal.returns
returns c =
    let xs = c.args.events.now in
    let k = c.loop-event.event-index in
    record { after = noted_same (Among (slice_get xs) k) (Head xs) (all_heads xs k c.loop-event-test.false) c.loop-event.invariant }

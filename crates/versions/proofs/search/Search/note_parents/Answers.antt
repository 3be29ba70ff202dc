-- The parents are the numbers of the list that was marked, and each is below the event.
use Rattle.std.proofs.Common.{Some, ap, ◌∙◌, arith}
use Rattle.versions.specs.Versions.{Head, Parent}
use Rattle.versions.proofs.Sets.{noted_same, parents_are, parents_known}
use Rattle.versions.proofs.search.Search.note_parents.Goals as goal

pub returns-in-Some : goal.returns-in-Some
returns-in-Some g c =
    let es = g.S.EventStore.events c.args.store.now in
    let xs = c.as_slice.result.now in
    record { after = noted_same (Head xs) (Parent es c.args.event) (parents_are es c.args.event xs (ap (λ l. Some l) c.as_slice.ensures.answer ∙ c.in-Some.ensures.answer)) c.note_all.ensures.after }

pub note_all-requires : goal.note_all-requires
note_all-requires g c =
    let store = c.args.store.now in
    let is = ap (λ l. Some l) c.as_slice.ensures.answer ∙ c.in-Some.ensures.answer in
    record { queued = (c.args.event, omega arith, parents_known (g.S.EventStore.events store) (g.S.EventStore.laws.sound store) c.args.event c.as_slice.result.now is, c.requires.queued) }

-- A pop gives the latest event, whose share of the count is taken off.
use Rattle.std.proofs.Common.{length, sym, ◌∙◌, arith}
use borrow.Author.Clash.{clash}
use Rattle.std.proofs.lemmas.Bool.{and_from, lt-ltb, le-leb}
use Rattle.queue.specs.Heaps.{queued}
use Rattle.versions.specs.Held.{mark_held}
use Rattle.versions.proofs.Queues.{seen_le}
use Rattle.versions.proofs.Taken.{some_queued, left}
use Rattle.versions.proofs.Told.{told_none, told_alone}
use Rattle.versions.proofs.search.Search.take_latest.Goals as goal

pub unreachable-requires : goal.unreachable-requires
unreachable-requires c =
    let s = c.args.self.now in
    let w = s.work.now in
    let n = s.counters.queued in
    clash (queued w n) (and_from _ _ (lt-ltb 0 n (some_queued s c.requires.queued)) (le-leb n (length w) (omega (arith, s.listed.within, s.listed.size, seen_le w s.counters s.listed)))) (sym c.in_default.ensures.answer)

pub invariant_of-self : goal.invariant_of-self
invariant_of-self c = record { listed = (left c.args.self.now c.pop.new.cells c.in-Some.event c.requires.queued c.pop.auto.cells c.in-Some.ensures.after).listed }

pub mark_of-requires : goal.mark_of-requires
mark_of-requires c = (left c.args.self.now c.pop.new.cells c.in-Some.event c.requires.queued c.pop.auto.cells c.in-Some.ensures.after).inside

pub unreachable-requires-in_default-mark_of : goal.unreachable-requires-in_default-mark_of
unreachable-requires-in_default-mark_of c =
    let s = c.args.self.now in
    let h = left s c.pop.new.cells c.in-Some.event c.requires.queued c.pop.auto.cells c.in-Some.ensures.after in
    h.marked (told_none (mark_held s c.in-Some.event) (c.in_default-mark_of.ensures.answer ∙ h.told_same))

pub returns-clause-marked : goal.returns-clause-marked
returns-clause-marked c =
    let h = left c.args.self.now c.pop.new.cells c.in-Some.event c.requires.queued c.pop.auto.cells c.in-Some.ensures.after in
    sym (c.in-Some-mark_of.ensures.answer ∙ h.told_same)

pub returns-clause-after : goal.returns-clause-after
returns-clause-after c =
    let s = c.args.self.now in
    let e = c.in-Some.event in
    let h = left s c.pop.new.cells e c.requires.queued c.pop.auto.cells c.in-Some.ensures.after in
    h.taken c.alone.result (c.alone.ensures.answer ∙ told_alone (mark_held s e) c.in-Some-mark_of.mark (c.in-Some-mark_of.ensures.answer ∙ h.told_same))

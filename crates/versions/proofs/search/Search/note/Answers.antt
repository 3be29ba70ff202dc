-- The writes mark the event, and queue it where it had no mark.
use Rattle.std.proofs.Common.{arith}
use Rattle.std.proofs.lemmas.List.{length-set}
use Rattle.versions.specs.Marks.{number_of}
use Rattle.versions.proofs.Queues.{seen_le, pending_le, sided_le}
use Rattle.versions.proofs.Told.{share_in, left_room, noted_besides, noted_first}
use Rattle.versions.proofs.search.Search.note.Goals as goal

pub overflow_add-self-in-Some : goal.overflow_add-self-in-Some
overflow_add-self-in-Some c =
    let s = c.args.self.now in
    let q = c.requires.queued in
    omega (arith, pending_le s.work.now s.counters s.listed q.0 q.2, seen_le s.work.now s.counters s.listed, sided_le (number_of c.join-new.result))

pub overflow_sub-self : goal.overflow_sub-self
overflow_sub-self c = share_in c.args.self.now c.args.event c.args.mark c.requires.inside c.requires.queued c.in-Some.old c.alone.result c.alone-in-Some.result c.in-Some.ensures.answer c.alone-in-Some.ensures.answer

pub invariant_of-self : goal.invariant_of-self
invariant_of-self c =
    record {
      listed =
          (noted_besides c.args.self.now c.args.event c.args.mark c.requires.inside c.requires.queued c.in-Some.old c.join-new.result c.number.result c.alone.result c.alone-in-Some.result
          c.in-Some.ensures.answer c.join-new.ensures.answer c.number.ensures.answer c.alone.ensures.answer c.alone-in-Some.ensures.answer).listed;
    }

pub returns-in-Some : goal.returns-in-Some
returns-in-Some c =
    record {
      after =
          noted_besides c.args.self.now c.args.event c.args.mark c.requires.inside c.requires.queued c.in-Some.old c.join-new.result c.number.result c.alone.result c.alone-in-Some.result
          c.in-Some.ensures.answer c.join-new.ensures.answer c.number.ensures.answer c.alone.ensures.answer c.alone-in-Some.ensures.answer;
    }

pub bounds-work-s-3 : goal.bounds-work-s-3
bounds-work-s-3 c =
    simp length-set (omega (arith, c.args.self.now.listed.size, left_room c.args.self.now c.args.event c.args.mark c.requires.inside c.requires.queued c.in_default.ensures.answer))

pub overflow_add-self-4 : goal.overflow_add-self-4
overflow_add-self-4 c =
    let s = c.args.self.now in
    let q = c.requires.queued in
    omega (arith, pending_le s.work.now s.counters s.listed q.0 q.2, seen_le s.work.now s.counters s.listed, sided_le (number_of c.args.mark))

pub invariant_of-self-2 : goal.invariant_of-self-2
invariant_of-self-2 c =
    record {
      listed =
          (noted_first c.args.self.now c.args.event c.args.mark c.requires.inside c.requires.queued c.number-2.result c.alone-2.result c.push.new.cells c.push.result
          c.in_default.ensures.answer c.number-2.ensures.answer c.alone-2.ensures.answer c.push.auto.cells c.push.ensures.answer c.push.ensures.after).listed;
    }

pub returns : goal.returns
returns c =
    record {
      after =
          noted_first c.args.self.now c.args.event c.args.mark c.requires.inside c.requires.queued c.number-2.result c.alone-2.result c.push.new.cells c.push.result
          c.in_default.ensures.answer c.number-2.ensures.answer c.alone-2.ensures.answer c.push.auto.cells c.push.ensures.answer c.push.ensures.after;
    }

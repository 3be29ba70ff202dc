-- The refusals in their order.
use Rattle.std.proofs.Common.{ℕ, List, Err, subst, inr, arith}
use Rattle.std.proofs.lemmas.Result.{err_from_is_err_and}
use Rattle.events.specs.declared.faults.EventFault.{EventFault}
use Rattle.events.specs.declared.faults.BookFault.{BookFault}
use Rattle.versions.specs.Difference.{Enough, HeadsTested, Known, Refused}
use Rattle.versions.proofs.differ.admit.Goals as goal

refused-second : (count room : ℕ) (first second : List ℕ) (wide long : ℕ) (f : EventFault) → Enough count room wide long → Known count first → HeadsTested count second (Err f) → Refused count room first second wide long (BookFault.Event f)
refused-second count room first second wide long (EventFault.Unknown k) e known h = (e, inr (known, h))
refused-second count room first second wide long (EventFault.File f) e known h = absurd h
refused-second count room first second wide long (EventFault.Name k) e known h = absurd h
refused-second count room first second wide long (EventFault.Character k) e known h = absurd h
refused-second count room first second wide long (EventFault.Held k) e known h = absurd h
refused-second count room first second wide long (EventFault.Clash k) e known h = absurd h
refused-second count room first second wide long (EventFault.Parents k) e known h = absurd h

pub returns-in_err-test_heads-2 : goal.returns-in_err-test_heads-2
returns-in_err-test_heads-2 g c =
    let store = c.args.store.now in
    let room = g.S.EventStore.room store in
    let f = c.in_err-test_heads-2.field-0.0 in
    let cap = c.capacity-needed.ensures.answer in
    let p = err_from_is_err_and c.from_residual-in_err-test_heads-2.result c.from_residual-in_err-test_heads-2.ensures.1 in
    record {
      answer =
          rw (p.1, p.2)
          (subst (λ n. Refused n room c.args.first.now c.args.second.now c.args.wide c.args.long (BookFault.Event f)) c.count-count.ensures.answer
          (refused-second c.count-count.result room c.args.first.now c.args.second.now c.args.wide c.args.long f (omega arith, omega arith) c.in_ok-test_heads.ensures.answer c.in_err-test_heads-2.ensures.answer));
    }

pub returns : goal.returns
returns g c =
    let cap = c.capacity-needed.ensures.answer in
    let count = c.count-count.ensures.answer in
    record {
      answer = (
        (omega arith, omega arith),
        subst (λ n. Known n c.args.first.now) count c.in_ok-test_heads.ensures.answer,
        subst (λ n. Known n c.args.second.now) count c.in_ok-test_heads-2.ensures.answer,
      );
    }

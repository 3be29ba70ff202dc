use Rattle.std.proofs.Common.{◌≡◌, ◌+◌, ◌-◌, ◌*◌, [], length, take, sym, refl, ◌∙◌, subst, arith}
use Rattle.archive.specs.Waiting.{InHand, Waiting}
use Rattle.archive.specs.Calls.{Placed}
use Rattle.archive.proofs.Lines.{up_from, all_in_hand, up_next}
use Rattle.archive.proofs.unwritten.Unwritten.start.Goals as goal

pub loop-e-init : goal.loop-e-init
loop-e-init g c =
    let s = c.args.self.now.store.now in
    let es = g.S.EventStore.events s in
    let room = g.S.EventStore.room s in
    let laws = g.S.EventStore.laws in
    let cells = c.args.self.now.work.now.cells.now in
    let queue = c.args.self.now.queue.now in
    let n : length es ≡ length es - 0 = omega arith in
    record {
      waiting = (
        (λ p. []),
        subst (λ m. Waiting es room cells (take queue.len queue.cells.now) (λ p. []) (up_from 0 m)) n
            (subst (λ k. Waiting es room cells (take k queue.cells.now) (λ p. []) (up_from 0 (length es))) (sym c.requires.empty)
            (all_in_hand es (laws.sound s) room (laws.within s) (laws.small s) cells c.requires.clear)),
      );
      kept = refl;
      store = refl;
      work = refl;
      cells = refl;
    }

pub place-requires-clause-hand : goal.place-requires-clause-hand
place-requires-clause-hand g c =
    let s = c.args.self.now.store.now in
    let es = g.S.EventStore.events s in
    let room = g.S.EventStore.room s in
    let laws = g.S.EventStore.laws in
    let all = c.loop-e.self in
    let now = c.loop-e.invariant in
    let e = c.loop-e.e in
    let q = up_next es (laws.sound s) room (laws.within s) (laws.small s) e (length es) (omega (arith, c.count-e-end.ensures.answer, c.loop-e-test.true)) in
    subst (λ t. InHand (g.S.EventStore.events t) (g.S.EventStore.room t) all.work.now.cells.now all.queue.now.cells.now all.queue.now.len e) (sym now.store)
    ((now.waiting.0, (_, subst (λ ws. Waiting es room all.work.now.cells.now (take all.queue.now.len all.queue.now.cells.now) now.waiting.0 ws) q now.waiting.1)))

pub loop-e-preserved : goal.loop-e-preserved
loop-e-preserved g c =
    let s = c.args.self.now.store.now in
    let es = g.S.EventStore.events s in
    let room = g.S.EventStore.room s in
    let laws = g.S.EventStore.laws in
    let all = c.loop-e.self in
    let new = c.place.new.self in
    let now = c.loop-e.invariant in
    let e = c.loop-e.e in
    let q = up_next es (laws.sound s) room (laws.within s) (laws.small s) e (length es) (omega (arith, c.count-e-end.ensures.answer, c.loop-e-test.true)) in
    let placed = subst (λ t. Placed (g.S.EventStore.events t) (g.S.EventStore.room t) e all.work.now.cells.now all.queue.now.cells.now all.queue.now.len new.work.now.cells.now new.queue.now.cells.now new.queue.now.len) now.store c.place.ensures.after in
    let kept = subst (λ t. take (2 * g.S.EventStore.room t) new.work.now.cells.now ≡ take (2 * g.S.EventStore.room t) all.work.now.cells.now) now.store c.place.ensures.kept in
    record {
      waiting = placed.settles now.waiting.0 (up_from (e + 1) (length es - (e + 1))) (subst (λ ws. Waiting es room all.work.now.cells.now (take all.queue.now.len all.queue.now.cells.now) now.waiting.0 ws) q now.waiting.1);
      kept = kept ∙ now.kept;
      store = c.place.ensures.same.0 ∙ now.store;
      work = c.place.ensures.same.1.0 ∙ now.work;
      cells = c.place.ensures.same.1.1 ∙ now.cells;
    }

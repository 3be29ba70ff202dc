use Rattle.std.proofs.Common.{Some, ap, ◌∙◌}
use Rattle.archive.proofs.Asked.{parents_below, awaited_one}
use Rattle.archive.proofs.unwritten.Unwritten.awaited.Goals as goal

pub open_one-requires : goal.open_one-requires
open_one-requires g c =
    let s = c.args.self.now in
    let t = s.store.now in
    let laws = g.S.EventStore.laws in
    parents_below (g.S.EventStore.events t) (laws.sound t) (g.S.EventStore.room t) s.work.now.room s.work.now.count s.work.now.cells.now c.args.e c.as_slice.result.now s.room s.count
    (ap Some c.as_slice.ensures.answer ∙ c.in_ok-parents.ensures.answer) (laws.within t)

pub returns : goal.returns
returns g c =
    let s = c.args.self.now in
    let t = s.store.now in
    record {
      answer =
          awaited_one (g.S.EventStore.events t) (g.S.EventStore.laws.sound t) (g.S.EventStore.room t) s.work.now.room s.work.now.count s.work.now.cells.now c.args.e c.as_slice.result.now s.room s.count
          (ap Some c.as_slice.ensures.answer ∙ c.in_ok-parents.ensures.answer) c.open_one.result c.open_one.ensures.answer;
    }

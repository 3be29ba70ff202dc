-- Each step goes on from the stage before, and takes one event more.
use Rattle.std.proofs.Common.{length, drop, refl, ◌∙◌, arith}
use Rattle.versions.proofs.Queues.{seen_le, pending_le}
use Rattle.versions.proofs.Starts.{first_stage, drop_further}
use Rattle.versions.proofs.run.search.Goals as goal

pub start-search-requires-clause-known : goal.start-search-requires-clause-known
start-search-requires-clause-known g c =
    let store = c.args.store.now in
    let cap = c.capacity.ensures.answer in
    (length (g.S.EventStore.events store), omega (arith, g.S.EventStore.laws.within store), c.requires.known.0, c.requires.known.1)

pub loop-search-init : goal.loop-search-init
loop-search-init g c =
    let store = c.args.store.now in
    let es = g.S.EventStore.events store in
    let cap = c.capacity.ensures.answer in
    let st = c.start-search.ensures.after in
    let s = c.start-search.result in
    record {
      stage = (length es, first_stage es c.capacity.result c.args.first.now c.args.second.now s.work.now c.args.out.now s.counters (omega (arith, g.S.EventStore.laws.within store)) c.requires.known.0 c.requires.known.1 st);
      room = st.fields.0 ∙ cap;
      kept = refl {a = drop s.counters.first c.args.out.now};
    }

pub loop-search-smaller : goal.loop-search-smaller
loop-search-smaller g c =
    let inv = c.loop-search.invariant in
    let st = inv.stage.1 in
    let s = c.loop-search.search in
    omega (arith, seen_le s.work.now s.counters st.listed, pending_le s.work.now s.counters st.listed inv.stage.0 st.queued, c.step.ensures.kept.fewer, inv.room, c.loop-search-test.true)

pub loop-search-preserved : goal.loop-search-preserved
loop-search-preserved g c =
    let inv = c.loop-search.invariant in
    let step = c.step.ensures.kept in
    record {
      stage = c.step.ensures.after c.args.first.now c.args.second.now inv.stage.0 inv.stage.1;
      room = step.room ∙ inv.room;
      kept = step.kept ∙ drop_further c.loop-search.out c.args.out.now c.loop-search.search.counters.first c.step.new.self.counters.first step.first inv.kept;
    }

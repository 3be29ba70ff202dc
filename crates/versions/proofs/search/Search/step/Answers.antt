-- The three calls of a step, one after another.
use Rattle.std.proofs.Common.{arith}
use Rattle.versions.proofs.Steps.{placed, next_stage, one_less}
use Rattle.versions.proofs.search.Search.step.Goals as goal

pub write_down-requires : goal.write_down-requires
write_down-requires g c =
    let st = c.requires.stage in
    let tk = c.take_latest-event.ensures.after in
    let f = tk.fields in
    let low = (tk.queued st.2 st.3.queued).0 in
    let few = st.3.few in
    let held = st.3.held in
    (omega (arith, f.3, c.requires.room.0), omega (arith, f.0, f.4))

pub note_parents-requires-clause-queued : goal.note_parents-requires-clause-queued
note_parents-requires-clause-queued g c =
    let st = c.requires.stage in
    let taken = c.take_latest-event in
    let wrote = c.write_down in
    (placed (g.S.EventStore.events c.args.store.now) c.args.self.now taken.new.self wrote.new.self c.args.out.now wrote.new.out taken.result.0 taken.result.1 c.requires.room.0 taken.ensures.marked taken.ensures.after wrote.ensures.after st.0 st.1 st.2 st.3).queued

pub returns-clause-after : goal.returns-clause-after
returns-clause-after g c first second bound stage =
    let store = c.args.store.now in
    let taken = c.take_latest-event in
    let wrote = c.write_down in (
      taken.result.0,
      next_stage (g.S.EventStore.events store) c.args.self.now taken.new.self wrote.new.self c.args.out.now wrote.new.out taken.result.0 taken.result.1 c.requires.room.0 taken.ensures.marked taken.ensures.after wrote.ensures.after first second bound stage
          (g.S.EventStore.laws.sound store) c.note_parents.new.self c.note_parents.ensures.after,
    )

pub returns-clause-kept : goal.returns-clause-kept
returns-clause-kept g c =
    let store = c.args.store.now in
    let st = c.requires.stage in
    let taken = c.take_latest-event in
    let wrote = c.write_down in
    one_less (g.S.EventStore.events store) c.args.self.now taken.new.self wrote.new.self c.args.out.now wrote.new.out taken.result.0 taken.result.1 c.requires.room.0 taken.ensures.marked taken.ensures.after wrote.ensures.after st.0 st.1 st.2 st.3
    (g.S.EventStore.laws.sound store) c.note_parents.new.self c.note_parents.ensures.after

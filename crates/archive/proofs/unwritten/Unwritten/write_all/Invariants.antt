use Rattle.std.proofs.Common.{◌≡◌, ◌-◌, List, length}
use Rattle.events.specs.declared.name.Name.{Name}
use Rattle.archive.specs.Waiting.{Settled}
use Rattle.archive.proofs.Writing.{Written}
use Rattle.archive.proofs.unwritten.Unwritten.write_all.Given as goal

-- some events are written, and the others are in the queue or wait
abbrev pub invariant-loop-name : goal.invariant-loop-name
invariant-loop-name g l = record {
  past : (names : List Name) × Written g.O.TotalOrder.first (g.S.EventStore.events l.initial.self.store.now) (g.S.EventStore.room l.initial.self.store.now) l.self.work.now.cells.now names l.written;
  settled : Settled (g.S.EventStore.events l.initial.self.store.now) (g.S.EventStore.room l.initial.self.store.now) l.self.work.now.cells.now l.self.queue.now.cells.now l.self.queue.now.len;
  store : l.self.store.now ≡ l.initial.self.store.now;
  work : l.self.work.ghost_name ≡ l.initial.self.work.ghost_name;
  cells : l.self.work.now.cells.ghost_name ≡ l.initial.self.work.now.cells.ghost_name;
}

abbrev pub decreases-loop-name : goal.decreases-loop-name
decreases-loop-name g l = length (g.S.EventStore.events l.initial.self.store.now) - l.written

use Rattle.std.proofs.Common.{◌≡◌, ℕ, ◌-◌, ◌*◌, List, length, take}
use Rattle.archive.specs.Waiting.{Waiting}
use Rattle.archive.proofs.Lines.{up_from}
use Rattle.archive.proofs.unwritten.Unwritten.start.Given as goal

-- the events from e on are in hand
abbrev pub invariant-loop-e : goal.invariant-loop-e
invariant-loop-e g l = record {
  waiting : (lines : ℕ → List ℕ)
      × Waiting (g.S.EventStore.events l.initial.self.store.now) (g.S.EventStore.room l.initial.self.store.now) l.self.work.now.cells.now (take l.self.queue.now.len l.self.queue.now.cells.now) lines (up_from l.e (length (g.S.EventStore.events l.initial.self.store.now) - l.e));
  kept : take (2 * g.S.EventStore.room l.initial.self.store.now) l.self.work.now.cells.now ≡ take (2 * g.S.EventStore.room l.initial.self.store.now) l.initial.self.work.now.cells.now;
  store : l.self.store.now ≡ l.initial.self.store.now;
  work : l.self.work.ghost_name ≡ l.initial.self.work.ghost_name;
  cells : l.self.work.now.cells.ghost_name ≡ l.initial.self.work.now.cells.ghost_name;
}

use Rattle.std.proofs.Common.{◌≡◌, ◌*◌, ◌<◌, length, take, IfSome}
use Rattle.std.specs.Option.{unwrap_or}
use Rattle.archive.specs.Parts.{none}
use Rattle.archive.specs.Waiting.{Handed}
use Rattle.archive.proofs.Lines.{steps}
use Rattle.archive.proofs.unwritten.Unwritten.release.Given as goal

-- what is left of the line is in hand
abbrev pub invariant-loop-waiting : goal.invariant-loop-waiting
invariant-loop-waiting g l = record {
  handed : Handed (g.S.EventStore.events l.initial.self.store.now) (g.S.EventStore.room l.initial.self.store.now) l.self.work.now.cells.now l.self.queue.now.cells.now l.self.queue.now.len (unwrap_or l.waiting none);
  below : IfSome l.waiting (λ w. w < length (g.S.EventStore.events l.initial.self.store.now));
  kept : take (2 * g.S.EventStore.room l.initial.self.store.now) l.self.work.now.cells.now ≡ take (2 * g.S.EventStore.room l.initial.self.store.now) l.initial.self.work.now.cells.now;
  store : l.self.store.now ≡ l.initial.self.store.now;
  work : l.self.work.ghost_name ≡ l.initial.self.work.ghost_name;
  cells : l.self.work.now.cells.ghost_name ≡ l.initial.self.work.now.cells.ghost_name;
}

abbrev pub decreases-loop-waiting : goal.decreases-loop-waiting
decreases-loop-waiting g l =
    steps (length (g.S.EventStore.events l.initial.self.store.now)) (g.S.EventStore.room l.initial.self.store.now) l.self.work.now.cells.now (unwrap_or l.waiting none)

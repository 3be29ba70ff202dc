-- The stage reached, and what the output keeps.
use Rattle.std.proofs.Common.{◌≡◌, ℕ, ◌+◌, ◌-◌, drop}
use Rattle.versions.specs.Held.{StageOf}
use Rattle.versions.proofs.run.search.Given as goal

abbrev pub invariant-loop-search : goal.invariant-loop-search
invariant-loop-search g l = record {
  stage : (bound : ℕ) × StageOf (g.S.EventStore.events l.store) l.first l.second l.search l.out bound;
  room : l.search.counters.room ≡ g.S.EventStore.room l.store;
  kept : drop l.search.counters.first l.out ≡ drop l.search.counters.first l.initial.out;
}

-- how many events of the store are yet to be taken, at most
abbrev pub decreases-loop-search : goal.decreases-loop-search
decreases-loop-search g l = g.S.EventStore.room l.store + l.search.counters.queued - l.search.counters.seen

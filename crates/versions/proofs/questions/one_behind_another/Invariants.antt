-- No event passed so far is behind a later one.
use Rattle.std.proofs.Common.{length}
use Rattle.versions.specs.Difference.{Known}
use Rattle.versions.specs.Questions.{OneBehind}
use Rattle.versions.proofs.questions.one_behind_another.Given as goal

abbrev pub invariant-loop-rest : goal.invariant-loop-rest
invariant-loop-rest g l = record {
  known : Known (length (g.S.EventStore.events l.store)) l.rest;
  left : OneBehind (g.S.EventStore.events l.store) l.parents → OneBehind (g.S.EventStore.events l.store) l.rest;
  found : OneBehind (g.S.EventStore.events l.store) l.rest → OneBehind (g.S.EventStore.events l.store) l.parents;
}

abbrev pub decreases-loop-rest : goal.decreases-loop-rest
decreases-loop-rest g l = length l.rest

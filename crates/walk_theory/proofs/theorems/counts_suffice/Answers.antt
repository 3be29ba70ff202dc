use Rattle.walk_theory.proofs.Counts.{quick}
use Rattle.walk_theory.proofs.theorems.counts_suffice.Goals as goal

pub returns : goal.returns
returns _ = quick

use Rattle.walk_theory.proofs.Bases.{twins}
use Rattle.walk_theory.proofs.theorems.trees_grow_alike.Goals as goal

pub returns : goal.returns
returns _ = twins

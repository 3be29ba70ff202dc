use Rattle.walk_theory.proofs.Standing.{opens}
use Rattle.walk_theory.proofs.theorems.stands_at_first.Goals as goal

pub returns : goal.returns
returns _ = opens

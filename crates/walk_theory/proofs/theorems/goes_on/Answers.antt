use Rattle.walk_theory.proofs.TakenIn.{takes_in}
use Rattle.walk_theory.proofs.theorems.goes_on.Goals as goal

pub returns : goal.returns
returns _ = takes_in

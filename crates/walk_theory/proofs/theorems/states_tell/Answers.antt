use Rattle.walk_theory.proofs.States.{states_tell}
use Rattle.walk_theory.proofs.theorems.states_tell.Goals as goal

pub returns : goal.returns
returns _ = states_tell

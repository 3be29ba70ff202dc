use Rattle.walk_theory.proofs.Standing.{lists}
use Rattle.walk_theory.proofs.theorems.lists_the_sequence.Goals as goal

pub returns : goal.returns
returns _ = lists

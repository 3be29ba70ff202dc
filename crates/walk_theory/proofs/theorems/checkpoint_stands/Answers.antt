use Rattle.walk_theory.proofs.Standing.{checks}
use Rattle.walk_theory.proofs.theorems.checkpoint_stands.Goals as goal

pub returns : goal.returns
returns _ = checks

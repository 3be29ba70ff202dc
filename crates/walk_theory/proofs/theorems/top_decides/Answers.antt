use Rattle.walk_theory.proofs.Tops.{sides}
use Rattle.walk_theory.proofs.theorems.top_decides.Goals as goal

pub returns : goal.returns
returns _ = sides

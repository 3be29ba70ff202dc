use Rattle.walk_theory.proofs.Shown.{shows_versions}
use Rattle.walk_theory.proofs.theorems.shows_versions.Goals as goal

pub returns : goal.returns
returns _ = shows_versions

use Rattle.walk_theory.proofs.Shown.{shows_the_text}
use Rattle.walk_theory.proofs.theorems.shows_the_text.Goals as goal

pub returns : goal.returns
returns _ = shows_the_text

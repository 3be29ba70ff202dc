use Rattle.walk_theory.proofs.Indexed.{holds_at_first}
use Rattle.walk_theory.proofs.theorems.holds_at_first.Goals as goal

pub returns : goal.returns
returns _ = holds_at_first

use Rattle.fugue.proofs.Typed.{past, shows}
use Rattle.fugue.proofs.theorems.deed_does_what_it_says.Goals as goal

pub returns : goal.returns
returns c = λ before o log e u. (past before o log e u, shows before o log e u)

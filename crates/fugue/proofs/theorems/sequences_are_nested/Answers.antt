use Rattle.fugue.proofs.Placed.{nested, grown_part}
use Rattle.fugue.proofs.theorems.sequences_are_nested.Goals as goal

pub returns : goal.returns
returns c = λ before o log u heads more h. (nested before o log u heads more h, grown_part before log u heads)

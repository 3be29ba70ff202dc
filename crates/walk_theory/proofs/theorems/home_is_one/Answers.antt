use Rattle.walk_theory.proofs.Agreement.{settles}
use Rattle.walk_theory.proofs.theorems.home_is_one.Goals as goal

pub returns : goal.returns
returns _ = λ before o big small gb gs ag later l v all cl p q. settles before o big small gb gs ag v all later l cl p q

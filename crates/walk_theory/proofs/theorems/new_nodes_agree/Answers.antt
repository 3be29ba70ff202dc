use Rattle.walk_theory.proofs.Agreement.{grows}
use Rattle.walk_theory.proofs.theorems.new_nodes_agree.Goals as goal

pub returns : goal.returns
returns _ = λ before o big small gb gs ag later l v all cl p q x c f. grows before o big small gb gs ag v all later l cl p q x c f

use Rattle.walk_theory.proofs.Standing.{walks}
use Rattle.walk_theory.proofs.theorems.walk_stands.Goals as goal

pub returns : goal.returns
returns _ = λ before o big small later whole listed st d deep v all cl p q x c f. walks before o big small later d v p x c all whole listed st deep cl q f

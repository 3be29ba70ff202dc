use Rattle.walk_theory.proofs.Search.{finds}
use Rattle.walk_theory.proofs.theorems.search_finds_the_place.Goals as goal

pub returns : goal.returns
returns _ = λ before o t g v cl p q x c f d l. finds before o t g v cl p q x f d l c

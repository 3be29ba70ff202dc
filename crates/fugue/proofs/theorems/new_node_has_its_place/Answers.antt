use Rattle.fugue.proofs.NewNode.{new_node_lem}
use Rattle.fugue.proofs.theorems.new_node_has_its_place.Goals as goal

pub returns : goal.returns
returns c = new_node_lem

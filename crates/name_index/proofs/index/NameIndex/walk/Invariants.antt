use Rattle.std.proofs.Common.{◌-◌, length, vec_items}
use Rattle.name_index.proofs.Walking.{Stands}
use Rattle.name_index.proofs.index.NameIndex.walk.Given as goal

abbrev pub invariant-loop-name : goal.invariant-loop-name
invariant-loop-name l = Stands (vec_items l.self.nodes) l.name l.node l.depth

abbrev pub decreases-loop-name : goal.decreases-loop-name
decreases-loop-name l = length (vec_items l.self.nodes) - l.node

use Rattle.std.proofs.Common.{◌-◌, Some}
use Rattle.avl_tree.proofs.Weighs.{load}
use Rattle.avl_tree.proofs.climb.+place_above.Given as goal

abbrev pub decreases-place_above : goal.decreases-place_above
decreases-place_above l = 65536 - load l.nodes.now (Some l.i)

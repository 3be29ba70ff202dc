use Rattle.avl_tree.proofs.build.+build.Given as goal

abbrev pub decreases-build : goal.decreases-build
decreases-build l = l.count

use Rattle.avl_tree.proofs.Weighs.{load}
use Rattle.avl_tree.proofs.find.+present_below.Given as goal

abbrev pub decreases-present_below : goal.decreases-present_below
decreases-present_below l = load l.nodes.now l.link

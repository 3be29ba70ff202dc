use Rattle.avl_tree.proofs.Weighs.{load}
use Rattle.avl_tree.proofs.find.+collect_below.Given as goal

abbrev pub decreases-collect_below : goal.decreases-collect_below
decreases-collect_below l = load l.nodes.now l.link

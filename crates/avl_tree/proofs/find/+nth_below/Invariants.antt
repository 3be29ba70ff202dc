use Rattle.avl_tree.proofs.Weighs.{load}
use Rattle.avl_tree.proofs.find.+nth_below.Given as goal

abbrev pub decreases-nth_below : goal.decreases-nth_below
decreases-nth_below l = load l.nodes.now l.link

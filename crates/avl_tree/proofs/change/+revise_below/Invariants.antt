use Rattle.avl_tree.proofs.Weighs.{load}
use Rattle.avl_tree.proofs.change.+revise_below.Given as goal

abbrev pub decreases-revise_below : goal.decreases-revise_below
decreases-revise_below l = load l.nodes.now l.link

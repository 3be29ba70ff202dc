use Rattle.avl_tree.proofs.Weighs.{load}
use Rattle.avl_tree.proofs.find.+entry_below.Given as goal

abbrev pub decreases-entry_below : goal.decreases-entry_below
decreases-entry_below l = load l.nodes.now l.link

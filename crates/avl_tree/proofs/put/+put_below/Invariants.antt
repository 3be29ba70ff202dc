use Rattle.avl_tree.proofs.Weighs.{load}
use Rattle.avl_tree.proofs.put.+put_below.Given as goal

abbrev pub decreases-put_below : goal.decreases-put_below
decreases-put_below l = load l.nodes.now l.link

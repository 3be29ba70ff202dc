use Rattle.avl.specs.Avl.{avl_tree_of}
use Rattle.avl.proofs.Facts.{held_at}
use Rattle.avl.proofs.index.position.AvlIndexPositionIndex.at.Goals as goal

pub entry_below-requires : goal.entry_below-requires
entry_below-requires c = let s = c.args.self.now in (avl_tree_of s, held_at s c.deref.result.now c.deref.ensures.value)

pub returns : goal.returns
returns c = let s = c.args.self.now in record { answer = c.entry_below.ensures (avl_tree_of s) (held_at s c.deref.result.now c.deref.ensures.value) }

use Rattle.std.proofs.Common.{ap, ◌∙◌}
use Rattle.avl.specs.Avl.{avl_tree_of}
use Rattle.avl_tree.specs.declared.node.Weight.{Weight}
use Rattle.avl.proofs.Facts.{held_at}
use Rattle.avl_tree.proofs.Sizes.{prepared_entries}
use Rattle.avl.proofs.index.position.AvlIndexPositionIndex.prepared_count.Goals as goal

pub weight_of-requires : goal.weight_of-requires
weight_of-requires c = let s = c.args.self.now in (avl_tree_of s, held_at s c.deref.result.now c.deref.ensures.value)

pub returns : goal.returns
returns c =
    let s = c.args.self.now in
    record { answer = ap (λ (w : Weight). w.prepared) (c.weight_of.ensures (avl_tree_of s) (held_at s c.deref.result.now c.deref.ensures.value)) ∙ prepared_entries (avl_tree_of s) }

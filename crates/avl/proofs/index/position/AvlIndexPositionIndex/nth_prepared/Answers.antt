use Rattle.std.proofs.Common.{◌∙◌, arith}
use Rattle.indexes.specs.Entries.{is_prepared}
use Rattle.indexes.specs.Questions.{find}
use Rattle.indexes.proofs.Finds.{shifted_zero}
use Rattle.avl.specs.Avl.{avl_tree_of, avl_entries}
use Rattle.avl.proofs.Facts.{held_at, small_of}
use Rattle.avl.proofs.index.position.AvlIndexPositionIndex.nth_prepared.Goals as goal

pub nth_below-requires : goal.nth_below-requires
nth_below-requires c = let s = c.args.self.now in (avl_tree_of s, held_at s c.deref.result.now c.deref.ensures.value, omega (arith, small_of s))

pub returns : goal.returns
returns c =
    let s = c.args.self.now in
    record { answer = c.nth_below.ensures (avl_tree_of s) (held_at s c.deref.result.now c.deref.ensures.value) ∙ shifted_zero (find is_prepared (avl_entries s) c.args.n) }

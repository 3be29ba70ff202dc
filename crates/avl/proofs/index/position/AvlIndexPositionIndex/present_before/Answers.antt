use Rattle.std.proofs.Common.{take, refl, sym, ap, ◌∙◌, le-leb}
use Rattle.std.specs.Bool.{then_some}
use borrow.Author.Tests.{lt-leb}
use Rattle.indexes.specs.Entries.{is_present}
use Rattle.indexes.specs.Questions.{count}
use Rattle.avl.specs.Avl.{avl_tree_of, avl_entries}
use Rattle.avl.proofs.Facts.{held_at, small_of, before_is}
use Rattle.avl.proofs.index.position.AvlIndexPositionIndex.present_before.Goals as goal

pub returns-then-place-len : goal.returns-then-place-len
returns-then-place-len c =
    let s = c.args.self.now in
    let before = count is_present (take c.args.place (avl_entries s)) in
    record { answer = sym (ap (λ b. then_some b before) (lt-leb c.args.place c.len.result c.if-place-len.true)) ∙ before_is s c.args.place c.len.result before c.len.ensures refl }

pub present_below-requires : goal.present_below-requires
present_below-requires c = let s = c.args.self.now in (avl_tree_of s, held_at s c.deref.result.now c.deref.ensures.value, small_of s)

pub returns : goal.returns
returns c =
    let s = c.args.self.now in
    let counted = c.present_below.ensures (avl_tree_of s) (held_at s c.deref.result.now c.deref.ensures.value) in
    record { answer = sym (ap (λ b. then_some b c.present_below.result) (le-leb c.args.place c.len.result c.if-place-len.false)) ∙ before_is s c.args.place c.len.result c.present_below.result c.len.ensures counted }

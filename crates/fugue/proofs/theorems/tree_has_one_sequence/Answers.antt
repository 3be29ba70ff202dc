use Rattle.std.proofs.Common.{sym, subst}
use Rattle.fugue.specs.Tree.{SequenceOf}
use Rattle.fugue.proofs.Sequences.{sequence_right, sequence_only}
use Rattle.fugue.proofs.theorems.tree_has_one_sequence.Goals as goal

pub returns : goal.returns
returns c = λ before o t g s. (
  (λ a. sequence_only before o t s _ a (sequence_right before o t g)),
  (λ e. subst (SequenceOf before t) (sym e) (sequence_right before o t g)),
)

use Rattle.std.proofs.Common.{◌∙◌}
use Rattle.avl.proofs.Facts.{count_of}
use Rattle.avl.proofs.index.position.AvlIndexPositionIndex.len.Goals as goal

pub returns : goal.returns
returns c = record { answer = c.len.ensures ∙ count_of c.args.self.now }

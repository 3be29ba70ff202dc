use Rattle.fugue.proofs.Edits.{edit_gives}
use Rattle.fugue.proofs.theorems.edit_gives_the_text.Goals as goal

pub returns : goal.returns
returns c = edit_gives

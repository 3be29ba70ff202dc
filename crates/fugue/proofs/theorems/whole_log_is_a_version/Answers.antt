use Rattle.fugue.proofs.SameEvents.{whole}
use Rattle.fugue.proofs.theorems.whole_log_is_a_version.Goals as goal

pub returns : goal.returns
returns c = whole

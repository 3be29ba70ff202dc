use Rattle.fugue.proofs.Versions.{version_is}
use Rattle.fugue.proofs.theorems.version_is_heads_and_behind.Goals as goal

pub returns : goal.returns
returns c = version_is

-- The theorem on names.
use Rattle.versions.proofs.Alike.{alike}
use Rattle.versions.proofs.theorems.versions_are_alike.Goals as goal

pub returns : goal.returns
returns c = record { answer = alike }

use Rattle.fugue.proofs.SameEvents.{same_version, same_text, same_edit}
use Rattle.fugue.proofs.Archive.{same_archive}
use Rattle.fugue.proofs.theorems.same_events_mean_the_same.Goals as goal

pub returns : goal.returns
returns c = λ before o a b ua ka ub kb s. record {
  versions = same_version before o a b ua ka ub kb s;
  whole = same_text before o a b ua ka ub kb s;
  edits = same_edit before o a b ua ka ub kb s;
  archives = same_archive before o a b ub s;
}

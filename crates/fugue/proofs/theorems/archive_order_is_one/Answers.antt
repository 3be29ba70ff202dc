use Rattle.fugue.proofs.Archive.{some_archive, one_archive}
use Rattle.fugue.proofs.Archived.{archive_once, archive_after, archive_members, archive_admissible}
use Rattle.fugue.proofs.Numbered.{numbered_below, numbered_same, numbered_again}
use Rattle.fugue.proofs.theorems.archive_order_is_one.Goals as goal

pub returns : goal.returns
returns c = λ before o log u k. let r = some_archive before o log k in (
  r.0,
  r.1,
  (λ fs w. one_archive before o log u fs r.0 w r.1),
  record {
    every = archive_members before log u r.0 r.1;
    once = archive_once before log u r.0 r.1;
    after = archive_after before log u r.0 r.1;
    admissible = λ a. archive_admissible before o log a r.0 r.1;
    below = numbered_below before o log u r.0 r.1;
    same = numbered_same before o log u r.0 r.1;
    again = numbered_again before o log u r.0 r.1;
  },
)

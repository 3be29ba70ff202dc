use Rattle.fugue.proofs.Paths.{path_order, by_paths, members, only_by_paths, one_path}
use Rattle.fugue.proofs.theorems.sequence_rises_by_paths.Goals as goal

pub returns : goal.returns
returns c = λ before o. (
  path_order before o,
  (λ t g. record {
    rises = by_paths before o t g;
    members = members before o t g;
    alone = only_by_paths before o t g;
    apart = one_path before o t g;
  }),
)

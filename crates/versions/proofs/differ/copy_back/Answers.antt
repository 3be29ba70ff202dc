-- The output behind what was copied is as it was.
use Rattle.std.proofs.Common.{◌+◌, ◌-◌, arith}
use Rattle.std.proofs.lemmas.Slice.{drop-put_mid}
use Rattle.versions.proofs.differ.copy_back.Goals as goal

pub returns-clause-rest : goal.returns-clause-rest
returns-clause-rest c =
    let s = c.args.found.now.counters in
    drop-put_mid s.first (s.first + s.second - s.first) c.args.out.now c.reverse.new.self (s.first + s.second) (omega arith) (omega arith) (omega arith)

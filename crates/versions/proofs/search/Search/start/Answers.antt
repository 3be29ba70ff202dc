-- From nothing marked, the heads of the one version and then of the other.
use Rattle.versions.proofs.Starts.{bare_listed, started}
use Rattle.versions.proofs.search.Search.start.Goals as goal

pub invariant_of-search : goal.invariant_of-search
invariant_of-search c = record { listed = bare_listed c.args.work.now c.args.room c.requires.sized.0 c.requires.sized.1 }

pub returns : goal.returns
returns c =
    let a = c.note_all.new.self in
    let b = c.note_all-2.new.self in
    record { after = started c.args.room c.args.first.now c.args.second.now c.args.work.now a.work.now b.work.now a.counters b.counters c.note_all.ensures.after c.note_all-2.ensures.after }

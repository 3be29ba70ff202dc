-- What the search and the copy leave.
use Rattle.versions.proofs.Ends.{ended}
use Rattle.versions.proofs.differ.differing.Goals as goal

pub returns : goal.returns
returns g c =
    let store = c.args.store.now in
    let es = g.S.EventStore.events store in
    let found = c.search-found.ensures in
    let s = c.search-found.result in
    let copied = c.copy_back.ensures in
    record {
      answer =
          ended es (g.S.EventStore.laws.sound store) c.args.first.now c.args.second.now s.work.now c.args.out.now c.search-found.new.out c.copy_back.new.out s.counters found.after.0
          c.requires.known.0 c.requires.known.1 found.after.1 found.done.0 found.kept copied.front copied.after copied.rest;
    }

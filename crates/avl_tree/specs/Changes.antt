-- What a change makes of an entry.
use Rattle.indexes.specs.Entries.{with_prepared, with_effect}
use Rattle.indexes.specs.declared.entry.Entry.{Entry}
use Rattle.avl_tree.specs.declared.change.Change.{Change}
use Rattle.avl_tree.specs.declared.change.Change.TheVariants.{Prepared, Effect}

abbrev pub applied : Change → Entry → Entry
applied (Prepared k) e = with_prepared k e
applied (Effect f) e = with_effect f e

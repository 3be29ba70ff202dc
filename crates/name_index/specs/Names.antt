-- What an index means: its names in the order of their numbers, and how many it has room for.
use Rattle.std.specs.Prelude.{ℕ, List, map, vec_items}
use Rattle.events.specs.declared.name.Name.{Name}
use Rattle.name_index.specs.declared.index.NameIndex.{NameIndex}
use Rattle.name_index.specs.Walks.{name_of}

-- name k is at place k
abbrev pub names_of : NameIndex → List Name
names_of s = map name_of (vec_items s.nodes)

-- how many names there can be
abbrev pub room_of : NameIndex → ℕ
room_of s = s.room

-- Where the walk for a name ends.
use Rattle.std.specs.Prelude.{◌≡◌, ℕ, ◌<◌, List, [], map, length, Some, None}
use Rattle.std.specs.List.{slice_get}
use Rattle.events.specs.declared.name.Name.{Name}
use Rattle.name_index.specs.declared.node.Node.{Node}
use Rattle.name_index.specs.declared.walk.End.{End}
use Rattle.name_index.specs.Numbers.{Absent}
use Rattle.name_index.specs.Walks.{turn_of, link_at, place, name_of}

-- an absent link of node k at which the walk for the name stands after d steps
abbrev pub Free : List Node → Name → ℕ → ℕ → Type 0
Free ns x k d = (place ns x d ≡ Some k) × (k < length ns) × (link_at ns k (turn_of x d) ≡ None)

-- at no node, at the node with the name, or at an absent link, where the name stands nowhere;
-- a walk that ends at an absent link has taken fewer than 44 steps
abbrev pub Walked : List Node → Name → End → Type 0
Walked ns x End.Empty = ns ≡ []
Walked ns x (End.Held k) = slice_get (map name_of ns) k ≡ Some x
Walked ns x (End.Free k d) = Free ns x k d × Absent (map name_of ns) x × (d < 44)

-- What holds of every index.
use Rattle.std.specs.Prelude.{◌≡◌, ℕ, ◌≤◌, length, Some, vec_items}
use Rattle.std.specs.List.{slice_get}
use Rattle.events.specs.declared.name.Name.{Name}
use Rattle.name_index.specs.declared.index.NameIndex.{NameIndex}
use Rattle.name_index.specs.Numbers.{Distinct}
use Rattle.name_index.specs.Walks.{place, Agree}
use Rattle.name_index.specs.Names.{names_of, room_of}

-- a walk that has taken 44 steps has come to its name, so that it looks at 45 nodes at most
abbrev pub Short : NameIndex → Type 0
Short s = (x y : Name) (d k : ℕ) → place (vec_items s.nodes) x d ≡ Some k → slice_get (names_of s) k ≡ Some y → 44 ≤ d → x ≡ y

-- what holds of an index
pub record Lawful (s : NameIndex) : Type 0 where
  pub distinct : Distinct (names_of s)
  pub within : length (names_of s) ≤ room_of s
  pub small : room_of s ≤ 65536
  pub short : Short s

-- and of every one
abbrev pub AllLawful : Type 0
AllLawful = (s : NameIndex) → Lawful s

-- names that agree in 44 bits are the same
abbrev pub BitsTell : Type 0
BitsTell = (x y : Name) → Agree x y 44 → x ≡ y

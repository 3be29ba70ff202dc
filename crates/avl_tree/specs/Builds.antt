-- What a tree that is built over a run of nodes meets.
use Rattle.std.specs.Prelude.{◌≡◌, ℕ, zero, suc, ◌+◌, ◌*◌, ◌^◌, ◌<◌, ◌≤◌, List, [], ◌∷◌, Option}
use Rattle.avl_tree.specs.declared.node.Node.{Node}
use Rattle.avl_tree.specs.Nodes.{Held, Kept, held_entries}
use Rattle.avl_tree.specs.Tree.{Tree, numbers, height, Even}

-- n numbers from `from` on
abbrev pub range : ℕ → ℕ → List ℕ
range from zero = []
range from (suc n) = from ∷ range (suc from) n

pub record Builds (ns ms : List Node) (from count : ℕ) (link : Option ℕ) : Type 0 where
  pub tree : Tree
  pub held : Held ms link tree
  pub listed : numbers tree ≡ range from count
  pub even : Even tree
  -- as low as the count allows
  pub low : 2 ^ height tree ≤ 2 * count + 1
  pub high : count < 2 ^ height tree
  pub kept : Kept ns ms (range from count)
  pub same : held_entries ms ≡ held_entries ns

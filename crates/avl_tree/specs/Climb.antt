-- Where a subtree stands in a tree.
--   Found    a subtree, and how many entries come before it
--   Climbs   what the climb from a node to the root asks
use Rattle.std.specs.Prelude.{◌≡◌, ℕ, ◌+◌, ◌≤◌, ◌⊎◌, List, Some, None}
use Rattle.indexes.specs.Laws.{Apart}
use Rattle.avl_tree.specs.declared.node.Node.{Node}
use Rattle.avl_tree.specs.Nodes.{Holds}
use Rattle.avl_tree.specs.Tree.{Tree, leaf, node, numbers, size, top}

abbrev pub Found : Tree → Tree → ℕ → Type 0
Found leaf s o = ⊥
Found (node l j e r) s o =
    ((s ≡ node l j e r) × (o ≡ 0)) ⊎ (Found l s o ⊎ ((p : ℕ) × (o ≡ size l + 1 + p) × Found r s p))

pub record Climbs (ns : List Node) (i : ℕ) (t s : Tree) (o : ℕ) : Type 0 where
  pub holds : Holds ns None t
  pub found : Found t s o
  pub at : top s ≡ Some i
  pub apart : Apart (numbers t)
  pub small : size t ≤ 65536

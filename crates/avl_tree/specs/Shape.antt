-- What an AVL index keeps of its nodes, and the tree that they hold.
--   grown     the tree at a link, followed to a depth
--   tree_of   the tree at the root
--   cells     the nodes of a tree in order
--   Rooted, Stored, Covered   the nodes hold a tree of all of them
--   Named     the directory leads from each character to its node
use Rattle.std.specs.Prelude.{◌≡◌, ℕ, zero, suc, ◌+◌, ◌<◌, Bool, true, false, ◌&&◌, ◌||◌, List, [], ◌∷◌, ◌++◌, map, length, Some, None, Option, ◌==◌, nat_le}
use Rattle.std.specs.List.{slice_get}
use Rattle.indexes.specs.Questions.{characters}
use Rattle.avl_tree.specs.declared.node.Node.{Node}
use Rattle.avl_tree.specs.Nodes.{cell, held_entries}
use Rattle.avl_tree.specs.Tree.{Tree, leaf, node, numbers, height, top}

unfoldable pub grown : ℕ → List Node → Option ℕ → Tree
grown zero ns link = leaf
grown (suc d) ns None = leaf
grown (suc d) ns (Some i) =
    elim (slice_get ns i) [ None ↦ leaf | Some n ↦ node (grown d ns n.left) i n.entry (grown d ns n.right) ]

abbrev pub tree_of : List Node → Option ℕ → Tree
tree_of ns root = grown (length ns) ns root

abbrev pub cells : Option ℕ → Tree → List Node
cells p leaf = []
cells p (node l i e r) = cells (Some i) l ++ cell p l e r ∷ cells (Some i) r

abbrev pub member : ℕ → List ℕ → Bool
member k [] = false
member k (i ∷ is) = i == k || member k is

abbrev pub even : Tree → Bool
even leaf = true
even (node l i e r) = nat_le (height l) (height r + 1) && nat_le (height r) (height l + 1) && even l && even r

abbrev pub Rooted : List Node → Option ℕ → Type 0
Rooted ns root = root ≡ top (tree_of ns root)

-- each node is the cell of its place in the tree
abbrev pub Stored : List Node → Option ℕ → Type 0
Stored ns root = map (slice_get ns) (numbers (tree_of ns root)) ≡ map Some (cells None (tree_of ns root))

-- each node has a place in the tree
abbrev pub Covered : List Node → Option ℕ → Type 0
Covered ns root = (k : ℕ) → k < length ns → member k (numbers (tree_of ns root)) ≡ true

abbrev pub Named : List Node → List ℕ → Type 0
Named ns directory =
    (i c : ℕ) → slice_get (characters (held_entries ns)) i ≡ Some c → slice_get directory c ≡ Some i

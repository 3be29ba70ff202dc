-- What an AVL index means.
use Rattle.std.specs.Prelude.{ℕ, List, min, vec_items, vec_capacity}
use Rattle.std.proofs.Common.{arith}
use Rattle.indexes.specs.declared.entry.Entry.{Entry}
use Rattle.indexes.specs.Laws.{IndexLaws}
use Rattle.avl.specs.declared.index.AvlIndex.{AvlIndex}
use Rattle.avl_tree.specs.Shape.{tree_of}
use Rattle.avl_tree.specs.Tree.{Tree, entries}

abbrev pub avl_tree_of : AvlIndex → Tree
avl_tree_of s = tree_of (vec_items s.nodes) s.root

-- the entries in order
abbrev pub avl_entries : AvlIndex → List Entry
avl_entries s = entries (avl_tree_of s)

abbrev pub avl_room : AvlIndex → ℕ
avl_room s = min (min (vec_capacity s.nodes) (vec_capacity s.spare)) 65536

pub avl_laws : IndexLaws avl_entries avl_room
avl_laws = record { distinct = λ s. s.distinct; within = λ s. s.within; small = λ s. omega arith }

-- Trees of numbered entries.
--   entries, numbers   the in-order lists
--   weight             height, size and the two counts
--   top                the number of the root
--   Even               an AVL tree: the two sides of no node differ in height by more than one
use Rattle.std.specs.Prelude.{ℕ, ◌+◌, ◌≤◌, max, List, [], ◌∷◌, ◌++◌, Some, None, Option}
use Rattle.indexes.specs.Entries.{is_prepared, is_present}
use Rattle.indexes.specs.Questions.{bit}
use Rattle.indexes.specs.declared.entry.Entry.{Entry}
use Rattle.avl_tree.specs.declared.node.Weight.{Weight}

pub data Tree : Type 0 where
  leaf : Tree
  node : Tree → ℕ → Entry → Tree → Tree

abbrev pub entries : Tree → List Entry
entries leaf = []
entries (node l i e r) = entries l ++ e ∷ entries r

abbrev pub numbers : Tree → List ℕ
numbers leaf = []
numbers (node l i e r) = numbers l ++ i ∷ numbers r

-- the weight of a node over two sides
abbrev pub joined : Weight → Entry → Weight → Weight
joined a e b =
    record {
      height = max a.height b.height + 1;
      size = a.size + b.size + 1;
      prepared = a.prepared + b.prepared + bit (is_prepared e);
      present = a.present + b.present + bit (is_present e);
    }

abbrev pub weight : Tree → Weight
weight leaf = record { height = 0; size = 0; prepared = 0; present = 0 }
weight (node l i e r) = joined (weight l) e (weight r)

abbrev pub height : Tree → ℕ
height t = (weight t).height

abbrev pub size : Tree → ℕ
size t = (weight t).size

abbrev pub top : Tree → Option ℕ
top leaf = None
top (node l i e r) = Some i

abbrev pub Even : Tree → Type 0
Even leaf = Unit {0}
Even (node l i e r) = (height l ≤ height r + 1) × (height r ≤ height l + 1) × Even l × Even r

-- How nodes hold a tree.
--   cell     the node at the root of a tree
--   Holds    the nodes hold a tree below a parent
--   Held     the nodes hold a tree at a link
--   Sides    the nodes hold two trees and a node apart from them, which is to join them
--   Kept     nothing has changed but at some numbers
--   Makes    what a function that joins two sides leaves
use Rattle.std.specs.Prelude.{◌≡◌, ℕ, zero, suc, ◌+◌, ◌<◌, ◌≤◌, List, [], ◌∷◌, ◌++◌, map, Some, None, Option}
use Rattle.indexes.specs.Questions.{characters}
use Rattle.std.specs.List.{slice_get}
use Rattle.indexes.specs.Laws.{Away, Apart}
use Rattle.indexes.specs.declared.entry.Entry.{Entry}
use Rattle.avl_tree.specs.declared.node.Node.{Node}
use Rattle.avl_tree.specs.declared.node.Weight.{Weight}
use Rattle.avl_tree.specs.Turns.{put, revised}
use Rattle.avl_tree.specs.Tree.{Tree, leaf, node, numbers, joined, weight, size, top}

abbrev pub cell : Option ℕ → Tree → Entry → Tree → Node
cell p l e r =
    record { entry = e; left = top l; right = top r; parent = p; weight = joined (weight l) e (weight r) }

abbrev pub Holds : List Node → Option ℕ → Tree → Type 0
Holds ns p leaf = Unit {0}
Holds ns p (node l i e r) = (slice_get ns i ≡ Some (cell p l e r)) × Holds ns (Some i) l × Holds ns (Some i) r

pub record Held (ns : List Node) (link : Option ℕ) (t : Tree) : Type 0 where
  pub above : Option ℕ
  pub at : link ≡ top t
  pub holds : Holds ns above t

-- some tree is held at a link, small enough to be counted
abbrev pub Stands : List Node → Option ℕ → Type 0
Stands ns link = (t : Tree) × Held ns link t

pub record Sides (ns : List Node) (left right : Option ℕ) (l : Tree) (j : ℕ) (e : Entry) (r : Tree) : Type 0 where
  pub lower : Held ns left l
  pub upper : Held ns right r
  pub old : Node
  pub at : slice_get ns j ≡ Some old
  pub entry_is : old.entry ≡ e
  pub apart : Apart (numbers l ++ j ∷ numbers r)
  pub small : size l + size r < 65536

abbrev pub Ready : List Node → Option ℕ → ℕ → Option ℕ → Type 0
Ready ns left j right = (l : Tree) × (e : Entry) × (r : Tree) × Sides ns left right l j e r

abbrev pub Kept : List Node → List Node → List ℕ → Type 0
Kept ns ms is = (k : ℕ) → Away k is → slice_get ms k ≡ slice_get ns k

abbrev pub held_entries : List Node → List Entry
held_entries = map (λ n. n.entry)

pub record Makes (f : Tree → ℕ → Entry → Tree → Tree) (ns ms : List Node) (left : Option ℕ) (j : ℕ) (right : Option ℕ) (i : ℕ) : Type 0 where
  pub after : (l : Tree) (e : Entry) (r : Tree) → Sides ns left right l j e r → Held ms (Some i) (f l j e r)
  pub kept : (l : Tree) (e : Entry) (r : Tree) → Sides ns left right l j e r → Kept ns ms (numbers l ++ j ∷ numbers r)
  pub same : held_entries ms ≡ held_entries ns

-- a tree without doubles, at a link
pub record Stood (ns : List Node) (link : Option ℕ) (t : Tree) : Type 0 where
  pub held : Held ns link t
  pub apart : Apart (numbers t)
  pub small : size t ≤ 65536

-- a tree and a node apart from it, which is to stand at a place
pub record Sprout (ns : List Node) (link : Option ℕ) (place new : ℕ) (t : Tree) (x : Entry) : Type 0 where
  pub held : Held ns link t
  pub fresh : Held ns (Some new) (node leaf new x leaf)
  pub apart : Apart (numbers t)
  pub off : Away new (numbers t)
  pub small : size t < 65536
  pub within : place ≤ size t

pub record Puts (ns ms : List Node) (link : Option ℕ) (place new i : ℕ) : Type 0 where
  pub after : (t : Tree) (x : Entry) → Sprout ns link place new t x → Held ms (Some i) (put t place new x)
  pub kept : (t : Tree) (x : Entry) → Sprout ns link place new t x → Kept ns ms (new ∷ numbers t)
  pub same : held_entries ms ≡ held_entries ns

pub record Revises (f : Entry → Entry) (ns ms : List Node) (link : Option ℕ) (place : ℕ) : Type 0 where
  pub after : (t : Tree) → Stood ns link t → Held ms link (revised f t place)
  pub kept : (t : Tree) → Stood ns link t → Kept ns ms (numbers t)
  pub same : characters (held_entries ms) ≡ characters (held_entries ns)

-- what a weight of a tree meets
pub record Sane (w : Weight) : Type 0 where
  pub tall : w.height < 1 + w.size
  pub prepared_some : w.prepared < 1 + w.size
  pub present_some : w.present < 1 + w.size

-- one node changed
abbrev pub altered : (Node → Node) → List Node → ℕ → List Node
altered f [] i = []
altered f (n ∷ ns) zero = f n ∷ ns
altered f (n ∷ ns) (suc i) = n ∷ altered f ns i

abbrev pub below : Option ℕ → Node → Node
below p n = record { entry = n.entry; left = n.left; right = n.right; parent = p; weight = n.weight }

abbrev pub over : Option ℕ → Option ℕ → Weight → Node → Node
over left right w n = record { entry = n.entry; left = left; right = right; parent = n.parent; weight = w }

-- the node at a link hangs below p now
abbrev pub adopted : List Node → Option ℕ → Option ℕ → List Node
adopted ns None p = ns
adopted ns (Some i) p = altered (below p) ns i

abbrev pub tied : List Node → Option ℕ → ℕ → Option ℕ → Weight → List Node
tied ns left j right w = adopted (adopted (altered (over left right w) ns j) left (Some j)) right (Some j)

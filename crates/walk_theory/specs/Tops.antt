-- From which of the siblings at a place a node descends, and what that says of its order.
use Rattle.std.specs.Prelude.{◌≡◌, Bool, true, false, cond, not, [], ◌∷◌, ◌++◌, Some, None, Option}
use Rattle.events.specs.declared.name.Name.{Name}
use Rattle.fugue.specs.Names.{same, Ordered}
use Rattle.fugue.specs.Paths.{end, steps_to, steps, path, path_before}
use Rattle.fugue.specs.Tree.{Attachment, root, left_of, right_of, same_attachment, Tree, AttachedTo, has_node, Grown}

-- by what a place hangs on
abbrev pub by_owner : (Name → Option Name) → Attachment → Option Name
by_owner f root = None
by_owner f (left_of y) = f y
by_owner f (right_of y) = f y

-- the node at the place q that a node is or lies below, if any
unfoldable pub top_at : Tree → Attachment → Name → Option Name
top_at [] q x = None
top_at (n ∷ older) q x =
    cond (same n.name x) (cond (same_attachment n.attachment q) (Some x) (by_owner (top_at older q) n.attachment)) (top_at older q x)

-- is y before a new node x at the place q? By y's top there, and else by the node that has the place.
abbrev pub beside_owner : (Name → Name → Bool) → Tree → Attachment → Name → Bool
beside_owner before t root y = false
beside_owner before t (left_of z) y = path_before before (path t y) (path t z)
beside_owner before t (right_of z) y = not (path_before before (path t z) (path t y))

abbrev pub comes_before : (Name → Name → Bool) → Tree → Attachment → Name → Name → Option Name → Bool
comes_before before t q x y None = beside_owner before t q y
comes_before before t q x y (Some w) = before w x

abbrev pub TopDecides : Type 0
TopDecides =
    (before : Name → Name → Bool) → Ordered before → (t : Tree) → Grown t → (q : Attachment) → AttachedTo (has_node t) q
    → (x y : Name) → has_node t x ≡ false → has_node t y ≡ true
    → path_before before (path t y) (steps_to (steps t) q x ++ end ∷ []) ≡ comes_before before t q x y (top_at t q y)

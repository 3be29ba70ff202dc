-- How a tree is changed: rotations, a put and a revision, over plain trees.
--   turn_right, turn_left     a child comes up
--   raise_left, raise_right   one or two rotations, where that side is too high
--   at_side                   what is at a side, of what is near and what is far
--   turned, raised            the same by the side whose child comes up
--   balanced                  a node over two sides whose heights differ by at most two
--   put                       a new node at a place
--   revised                   the entry at a place changed
use Rattle.std.specs.Prelude.{ℕ, ◌+◌, ◌-◌, cond, ◌==◌, nat_le, nat_lt}
use Rattle.indexes.specs.declared.entry.Entry.{Entry}
use Rattle.avl_tree.specs.declared.side.Side.{Side}
use Rattle.avl_tree.specs.declared.side.Side.TheVariants.{Left, Right}
use Rattle.avl_tree.specs.Tree.{Tree, leaf, node, height, size}

-- the left child comes up
abbrev pub turn_right : Tree → ℕ → Entry → Tree → Tree
turn_right leaf j e r = node leaf j e r
turn_right (node a i x b) j e r = node a i x (node b j e r)

-- the right child comes up
abbrev pub turn_left : Tree → ℕ → Entry → Tree → Tree
turn_left l j e leaf = node l j e leaf
turn_left l j e (node b k y c) = node (node l j e b) k y c

abbrev pub raise_left : Tree → ℕ → Entry → Tree → Tree
raise_left leaf j e r = node leaf j e r
raise_left (node a i x b) j e r =
    turn_right (cond (nat_lt (height a) (height b)) (turn_left a i x b) (node a i x b)) j e r

abbrev pub raise_right : Tree → ℕ → Entry → Tree → Tree
raise_right l j e leaf = node l j e leaf
raise_right l j e (node b k y c) =
    turn_left l j e (cond (nat_lt (height c) (height b)) (turn_right b k y c) (node b k y c))

abbrev pub opposite : Side → Side
opposite Left = Right
opposite Right = Left

-- the left one of what is near and what is far; the right one of what is far and what is near
abbrev pub at_side : {X : Type 0} → Side → X → X → X
at_side Left x y = x
at_side Right x y = y

-- the near child comes up
abbrev pub turned : Side → Tree → ℕ → Entry → Tree → Tree
turned Left = turn_right
turned Right = turn_left

abbrev pub raised : Side → Tree → ℕ → Entry → Tree → Tree
raised Left = raise_left
raised Right = raise_right

abbrev pub balanced : Tree → ℕ → Entry → Tree → Tree
balanced l j e r =
    cond (nat_lt (height r + 1) (height l)) (raise_left l j e r)
    (cond (nat_lt (height l + 1) (height r)) (raise_right l j e r) (node l j e r))

abbrev pub put : Tree → ℕ → ℕ → Entry → Tree
put leaf place i x = node leaf i x leaf
put (node l j e r) place i x =
    cond (nat_le place (size l)) (balanced (put l place i x) j e r)
    (balanced l j e (put r (place - size l - 1) i x))

-- the entry at a place changed, nothing beyond the size
abbrev pub revised : (Entry → Entry) → Tree → ℕ → Tree
revised f leaf place = leaf
revised f (node l j e r) place =
    cond (nat_lt place (size l)) (node (revised f l place) j e r)
    (cond (place == size l) (node l j (f e) r) (node l j e (revised f r (place - size l - 1))))

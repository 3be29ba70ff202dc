-- Two trees that grow alike over two bases.
use Rattle.std.specs.Prelude.{◌≡◌, Bool, true, false, cond, ◌⊎◌, List, [], ◌∷◌, map}
use Rattle.events.specs.declared.name.Name.{Name}
use Rattle.fugue.specs.Names.{Ordered}
use Rattle.fugue.specs.Placements.{attached_by}
use Rattle.fugue.specs.Tree.{Attachment, root, left_of, right_of, Node, Tree, children, sequence, only, has_node, Grown}
use Rattle.walk_theory.specs.Origins.{behind}

-- where a new node hangs behind a left origin, by a whole tree
abbrev pub home_in : (Name → Name → Bool) → Tree → Attachment → Attachment
home_in before b q = attached_by (children before b q) (behind q (sequence before b)) q

module _ (before : Name → Name → Bool) (b : Tree) where
  -- A later node hangs on a later node, or in a gap of the base: at `top` or at the right of a node of the base.
  -- In the gap it hangs where the base puts a new node.
  abbrev pub attached_over : Attachment → Attachment
  attached_over root = home_in before b root
  attached_over (left_of z) = left_of z
  attached_over (right_of z) = cond (has_node b z) (home_in before b (right_of z)) (right_of z)

  abbrev pub node_over : Node → Node
  node_over a = record { name = a.name; attachment = attached_over a.attachment; character = a.character }

  -- the base with the later nodes on it
  abbrev pub grown_over : List Node → Tree
  grown_over [] = b
  grown_over (a ∷ later) = node_over a ∷ grown_over later

-- in a gap behind a node that was kept, or on a later node
abbrev pub OnLater : (Name → Bool) → (Name → Bool) → Attachment → Type 0
OnLater kept late root = Unit {0}
OnLater kept late (left_of z) = late z ≡ true
OnLater kept late (right_of z) = (kept z ≡ true) ⊎ (late z ≡ true)

-- later nodes, newest first, beside all that were there and those that were kept
abbrev pub LaterNodes : (Name → Bool) → (Name → Bool) → List Node → Type 0
LaterNodes all kept [] = Unit {0}
LaterNodes all kept (a ∷ later) = (all a.name ≡ false) × (has_node later a.name ≡ false) × OnLater kept (has_node later) a.attachment × LaterNodes all kept later

abbrev pub node_names : List Node → List Name
node_names s = map (λ n. n.name) s

-- the second tree has some nodes of the first, by name, and they stand in the same order
pub record Agrees (before : Name → Name → Bool) (big small : Tree) : Type 0 where
  pub within : (y : Name) → has_node small y ≡ true → has_node big y ≡ true
  pub order : node_names (sequence before small) ≡ node_names (only (has_node small) (sequence before big))

-- Where the bases agree, the trees that grow on them agree.
abbrev pub TreesGrowAlike : Type 0
TreesGrowAlike =
    (before : Name → Name → Bool) → Ordered before → (big small : Tree) → Grown big → Grown small → Agrees before big small
    → (later : List Node) → LaterNodes (has_node big) (has_node small) later
    → Agrees before (grown_over before big later) (grown_over before small later)

-- What an event comes to in the tree of its parents' version; trees and texts of versions.
--     Placement, Placed    a new node, the deletion of a node, or beyond; an event's name with its placement
--     nodes, struck        the tree of placed events; whether a node is deleted by one
--     visible, characters  the nodes that are not struck, in sequence; their characters
--     LeftOrigin           the node that an insert comes after, or the root
--     placement            of a deed, by the placed events that its author saw
--     placements, seen     of all events of a log, newest first; of those of a version
--     placement_in         of an event that is new to a log
--     tree_at, text_at     tree and text of a version; tree and text: of all events held
use Rattle.std.specs.Prelude.{◌∷◌}
use Rattle.fugue.specs.Vocabulary.{ℕ, zero, suc, Bool, cond, not, List, [], map, nth, Option, Some, mapped, value_or, kept_by, joined, Name, Character, Deed, NamedEvent}
use Rattle.events.specs.declared.deed.Deed.TheVariants.{Insert, Delete}
use Rattle.fugue.specs.Names.{same, has}
use Rattle.fugue.specs.Logs.{NewestFirst, version}
use Rattle.fugue.specs.Tree.{Attachment, root, left_of, right_of, Node, Tree, children, sequence}

pub data Placement : Type 0 where
  inserted : Node → Placement
  deleted : Name → Placement
  beyond : Placement

pub record Placed : Type 0 where
  pub name : Name
  pub placement : Placement

-- the node that a placement adds, if it does
abbrev pub node_of : Placement → List Node
node_of (inserted n) = n ∷ []
node_of (deleted x) = []
node_of beyond = []

-- the name of the node that it strikes, if it does
abbrev pub target_of : Placement → List Name
target_of (inserted n) = []
target_of (deleted x) = x ∷ []
target_of beyond = []

unfoldable pub nodes : List Placed → Tree
nodes ps = joined (λ p. node_of p.placement) ps

unfoldable pub targets : List Placed → List Name
targets ps = joined (λ p. target_of p.placement) ps

abbrev pub struck : List Placed → Name → Bool
struck ps x = has (targets ps) x

pub data LeftOrigin : Type 0 where
  start : LeftOrigin  -- the root
  node : Name → LeftOrigin

-- the root for position 0, else the visible node number p - 1
abbrev pub left_origin : List Node → ℕ → Option LeftOrigin
left_origin shown zero = Some start
left_origin shown (suc p) = mapped (λ n. node n.name) (nth shown p)

-- where a right child of the left origin is attached
abbrev pub right_end_of : LeftOrigin → Attachment
right_end_of start = root
right_end_of (node x) = right_of x

-- the nodes of a sequence after one
abbrev pub after : Name → List Node → List Node
after x [] = []
after x (n ∷ ns) = cond (same n.name x) ns (after x ns)

-- the nodes after the left origin; the first of them is its follower
abbrev pub following : LeftOrigin → List Node → List Node
following start s = s
following (node x) s = after x s

-- A left origin without right children gets the new node as its right child; else the follower gets it as a left child.
abbrev pub attached_by : List Node → List Node → Attachment → Attachment
attached_by [] follow q = q
attached_by (k ∷ ks) [] q = q
attached_by (k ∷ ks) (n ∷ ns) q = left_of n.name

-- the placed events of a version
abbrev pub part_of : List Name → List Placed → List Placed
part_of v ps = kept_by (λ p. has v p.name) ps

module _ (before : Name → Name → Bool) where
  unfoldable pub visible : List Placed → List Node
  visible ps = kept_by (λ n. not (struck ps n.name)) (sequence before (nodes ps))

  unfoldable pub characters : List Placed → List Character
  characters ps = map (λ n. n.character) (visible ps)

  -- struck nodes are children and followers as the others are
  unfoldable pub attachment_after : Tree → LeftOrigin → Attachment
  attachment_after t o = attached_by (children before t (right_end_of o)) (following o (sequence before t)) (right_end_of o)

  -- a delete's target is the visible node at its position
  unfoldable pub placement : List Placed → Name → Deed → Placement
  placement ps x (Insert c p) =
      value_or (mapped (λ o. inserted record { name = x; character = c; attachment = attachment_after (nodes ps) o }) (left_origin (visible ps) p.at)) beyond
  placement ps x (Delete p) = value_or (mapped (λ n. deleted n.name) (nth (visible ps) p.at)) beyond

  unfoldable pub placements : NewestFirst → List Placed
  placements [] = []
  placements (e ∷ older) =
      let ps = placements older in
      record { name = e.name; placement = placement (part_of (version older e.parents) ps) e.name e.deed } ∷ ps

  unfoldable pub seen : NewestFirst → List Name → List Placed
  seen log heads = part_of (version log heads) (placements log)

  unfoldable pub placement_in : NewestFirst → NamedEvent → Placement
  placement_in log e = placement (seen log e.parents) e.name e.deed

  unfoldable pub tree_at : NewestFirst → List Name → Tree
  tree_at log heads = nodes (seen log heads)

  unfoldable pub text_at : NewestFirst → List Name → List Character
  text_at log heads = characters (seen log heads)

  unfoldable pub tree : NewestFirst → Tree
  tree log = nodes (placements log)

  unfoldable pub text : NewestFirst → List Character
  text log = characters (placements log)

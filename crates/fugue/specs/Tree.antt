-- The tree of the inserted characters, and its sequence.
--     Attachment, Node, Tree   where a node hangs; an inserted character; the nodes, in any order
--     children, sequence       as they are computed
--     Children, SequenceOf     what they are, in the words of the tree
--     only p ns, node_names     the nodes whose names pass; names of nodes
--     has_node t x              the tree has a node of that name
--     Grown                    a tree that grew node by node
--     ClosedPart p t           a part of a tree that has what its nodes are attached to
use Rattle.std.specs.Prelude.{◌≡◌, ◌↔◌, ◌∷◌, ◌++◌}
use Rattle.fugue.specs.Vocabulary.{ℕ, zero, suc, Bool, true, false, cond, List, [], map, length, kept_by, joined, AllByRecursion, Name, Character}
use Rattle.fugue.specs.Names.{same, has, ◌∈◌, Rising}

-- under the root, or on one side of a node
pub data Attachment : Type 0 where
  root : Attachment
  left_of right_of : Name → Attachment

pub record Node : Type 0 where
  pub name : Name
  pub character : Character
  pub attachment : Attachment

abbrev pub Tree : Type 0
Tree = List Node

-- the two attachments are one
abbrev pub same_attachment : Attachment → Attachment → Bool
same_attachment root root = true
same_attachment root (left_of b) = false
same_attachment root (right_of b) = false
same_attachment (left_of a) root = false
same_attachment (left_of a) (left_of b) = same a b
same_attachment (left_of a) (right_of b) = false
same_attachment (right_of a) root = false
same_attachment (right_of a) (left_of b) = false
same_attachment (right_of a) (right_of b) = same a b

module _ (before : Name → Name → Bool) where
  -- a node put among siblings in order
  abbrev pub among : Node → List Node → List Node
  among n [] = n ∷ []
  among n (m ∷ ms) = cond (before m.name n.name) (m ∷ among n ms) (n ∷ m ∷ ms)

  -- in sibling order
  unfoldable pub sorted : List Node → List Node
  sorted [] = []
  sorted (n ∷ ns) = among n (sorted ns)

  -- the nodes attached at q, in sibling order
  unfoldable pub children : Tree → Attachment → List Node
  children t q = sorted (kept_by (λ n. same_attachment n.attachment q) t)

  -- the sequence of a node: left children's sequences, the node, right children's; to a depth
  unfoldable pub sequence_from : ℕ → Tree → Node → List Node
  sequence_from zero t n = []
  sequence_from (suc d) t n =
      joined (sequence_from d t) (children t (left_of n.name)) ++ n ∷ joined (sequence_from d t) (children t (right_of n.name))

  -- the sequence of the root; no node lies deeper than there are nodes
  unfoldable pub sequence : Tree → List Node
  sequence t = joined (sequence_from (length t) t) (children t root)

-- the list is the children at q: all nodes attached there and no others, in sibling order
pub record Children (before : Name → Name → Bool) (t : Tree) (q : Attachment) (ns : List Node) : Type 0 where
  pub are : (n : Node) → n ∈ ns ↔ (n ∈ t × (n.attachment ≡ q))
  pub rise : Rising (λ m n. before m.name n.name ≡ true) ns

-- the sequences of some siblings, one after another
pub data InSequence (before : Name → Name → Bool) (t : Tree) : List Node → List Node → Type 0 where
  none : InSequence before t [] []
  next : {n : Node} {ns ls rs s l r : List Node} → Children before t (left_of n.name) ls → InSequence before t ls l
      → Children before t (right_of n.name) rs → InSequence before t rs r
      → InSequence before t ns s → InSequence before t (n ∷ ns) ((l ++ n ∷ r) ++ s)

-- the list is the sequence of the tree: that of the root's children
pub record SequenceOf (before : Name → Name → Bool) (t : Tree) (s : List Node) : Type 0 where
  pub tops : List Node
  pub children : Children before t root tops
  pub in_sequence : InSequence before t tops s

abbrev pub only : (Name → Bool) → List Node → List Node
only p ns = kept_by (λ n. p n.name) ns

abbrev pub node_names : List Node → List Name
node_names ns = map (λ n. n.name) ns

-- attached to the root, or to a node whose name passes
abbrev pub AttachedTo : (Name → Bool) → Attachment → Type 0
AttachedTo p root = Unit {0}
AttachedTo p (left_of x) = p x ≡ true
AttachedTo p (right_of x) = p x ≡ true

-- the tree has a node of that name
abbrev pub has_node : Tree → Name → Bool
has_node t x = has (node_names t) x

-- newest first: each node has a name of its own, and is attached to the root or to an older node
abbrev pub Grown : Tree → Type 0
Grown [] = Unit {0}
Grown (n ∷ older) = (has (node_names older) n.name ≡ false) × AttachedTo (has (node_names older)) n.attachment × Grown older

-- where a node is in the part, so is what it is attached to
abbrev pub ClosedPart : (Name → Bool) → Tree → Type 0
ClosedPart p t = AllByRecursion (λ n. p n.name ≡ true → AttachedTo p n.attachment) t

-- What top_follows a left origin, and a new node right behind it, by the attachment at its right.
use Rattle.std.proofs.Common.{◌≡◌, Bool, false, [], ◌∷◌, ◌++◌}
use Rattle.events.specs.declared.name.Name.{Name}
use Rattle.events.specs.declared.character.Character.{Character}
use Rattle.fugue.specs.Names.{Ordered, ◌∈◌}
use Rattle.fugue.specs.Tree.{Attachment, root, left_of, right_of, Node, Tree, sequence, has_node, Grown, Children}
use Rattle.fugue.proofs.Sequences.{sequence_right}
use Rattle.fugue.proofs.Paths.{sequence_has}
use Rattle.fugue.proofs.Beside.{Starts, starts, after_right, at_root, at_right}
use Rattle.walk_theory.specs.Origins.{Origin, behind, front, new_node}

module _ (before : Name → Name → Bool) (o : Ordered before) (t : Tree) (g : Grown t) where
  -- what top_follows a left origin that has a right child has no left child
  pub followed : (q : Attachment) → Origin (has_node t) q → (k : Node) → k ∈ t → k.attachment ≡ q → Starts before o t (behind q (sequence before t))
  followed root h k i e = let s = sequence_right before o t g in starts before o t s.in_sequence k ((s.children.are k).1 (i, e))
  followed (left_of y) h k i e = elim h [ ]
  followed (right_of y) h k i e = after_right before o t (sequence_right before o t g).in_sequence y (sequence_has before o t g y h) k i e

  module _ (x : Name) (c : Character) (f : has_node t x ≡ false) where
    pub at_gap : (q : Attachment) → Origin (has_node t) q → Children before t q []
        → sequence before (new_node x q c ∷ t) ≡ front q (sequence before t) ++ new_node x q c ∷ behind q (sequence before t)
    at_gap root h k = at_root before o t g x c f k
    at_gap (left_of y) h k = elim h [ ]
    at_gap (right_of y) h k = at_right before o t g x c f y h k

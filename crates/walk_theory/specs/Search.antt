-- The place of a new node in a sequence, found by the nodes' places alone.
use Rattle.std.specs.Prelude.{◌≡◌, ℕ, zero, suc, ◌+◌, ◌-◌, ◌≤◌, Bool, false, cond, ◌&&◌, List, [], ◌∷◌, ◌++◌, length, take, drop, Some, None, Option}
use Rattle.std.specs.List.{prefix_len, suffix_len}
use Rattle.events.specs.declared.name.Name.{Name}
use Rattle.events.specs.declared.character.Character.{Character}
use Rattle.fugue.specs.Names.{same, Ordered}
use Rattle.fugue.specs.Placements.{attached_by}
use Rattle.fugue.specs.Tree.{Attachment, root, left_of, right_of, same_attachment, Node, Tree, children, sequence, only, ClosedPart, has_node, Grown}
use Rattle.walk_theory.specs.Origins.{Origin, behind, front, new_node}
use Rattle.walk_theory.specs.Tops.{by_owner}

-- where a node of a list hangs
abbrev pub attachment_in : List Node → Name → Attachment
attachment_in [] x = root
attachment_in (n ∷ ns) x = cond (same n.name x) n.attachment (attachment_in ns x)

-- the nodes before the first that passes
abbrev pub until : (Name → Bool) → List Node → List Node
until p [] = []
until p (n ∷ ns) = cond (p n.name) [] (n ∷ until p ns)

-- go up while the way goes to the left
unfoldable pub climb : ℕ → List Node → Attachment → Attachment
climb zero s q = q
climb (suc d) s root = root
climb (suc d) s (left_of y) = climb d s (attachment_in s y)
climb (suc d) s (right_of y) = right_of y

-- go up from a node to one at the place h, and not into the version
unfoldable pub top_outside : ℕ → List Node → (Name → Bool) → Attachment → Name → Option Name
top_outside zero s v h y = None
top_outside (suc d) s v h y = cond (v y) None (cond (same_attachment (attachment_in s y) h) (Some y) (by_owner (top_outside d s v h) (attachment_in s y)))

module _ (before : Name → Name → Bool) (x : Name) where
  abbrev pub top_precedes : Option Name → Bool
  top_precedes None = false
  top_precedes (Some w) = before w x

  abbrev pub top_follows : Option Name → Bool
  top_follows None = false
  top_follows (Some w) = before x w

-- where the new node hangs, by what the version has behind its left origin p
abbrev pub home : ℕ → List Node → Attachment → List Node → Attachment
home d s p [] = p
home d s p (n ∷ ns) = cond (same_attachment (climb d s n.attachment) p) (left_of n.name) p

module _ (before : Name → Name → Bool) (d : ℕ) (s : List Node) (v : Name → Bool) (p : Attachment) (x : Name) where
  abbrev pub run : List Node
  run = until v (behind p s)

  -- how many of the run come before it
  abbrev pub up : ℕ
  up = prefix_len (λ n. top_precedes before x (top_outside d s v p n.name)) run

  abbrev pub down : Name → ℕ
  down z = length run - suffix_len (λ n. top_follows before x (top_outside d s v (left_of z) n.name)) run

  abbrev pub among : List Node → ℕ
  among [] = up
  among (n ∷ ns) = cond (same_attachment (climb d s n.attachment) p) (down n.name) up

  abbrev pub place_for : ℕ
  place_for = length (front p s) + among (only v (behind p s))

pub record Found (before : Name → Name → Bool) (d : ℕ) (t : Tree) (v : Name → Bool) (p : Attachment) (x : Name) (c : Character) : Type 0 where
  -- the home is the one that the version gives
  pub at_home : home d (sequence before t) p (only v (behind p (sequence before t))) ≡ attached_by (children before (only v t) p) (behind p (sequence before (only v t))) p
  -- and the place is the one that the tree gives
  pub in_place : sequence before (new_node x (home d (sequence before t) p (only v (behind p (sequence before t)))) c ∷ t)
      ≡ take (place_for before d (sequence before t) v p x) (sequence before t)
      ++ new_node x (home d (sequence before t) p (only v (behind p (sequence before t)))) c ∷ drop (place_for before d (sequence before t) v p x) (sequence before t)

-- Of a grown tree let v be a closed part, p the right of a left origin in it, x a new name, and d as deep as the tree.
abbrev pub SearchFindsThePlace : Type 0
SearchFindsThePlace =
    (before : Name → Name → Bool) → Ordered before → (t : Tree) → Grown t → (v : Name → Bool) → ClosedPart v t → (p : Attachment) → Origin (λ y. has_node t y && v y) p
    → (x : Name) (c : Character) → has_node t x ≡ false → (d : ℕ) → length t ≤ d → Found before d t v p x c

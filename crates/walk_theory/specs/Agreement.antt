-- A new event in two trees that grow alike.
use Rattle.std.specs.Prelude.{◌≡◌, Bool, true, false, ◌&&◌, List, ◌∷◌}
use Rattle.events.specs.declared.name.Name.{Name}
use Rattle.events.specs.declared.character.Character.{Character}
use Rattle.fugue.specs.Names.{Ordered}
use Rattle.fugue.specs.Tree.{Attachment, Node, Tree, only, ClosedPart, has_node, Grown}
use Rattle.walk_theory.specs.Origins.{Origin, new_node}
use Rattle.walk_theory.specs.Bases.{home_in, attached_over, grown_over, OnLater, LaterNodes, Agrees}

-- What a version v, which has all of the bases, gives for a left origin in the two trees is one place of a later node.
pub record OneHome (before : Name → Name → Bool) (big small : Tree) (later : List Node) (v : Name → Bool) (p : Attachment) : Type 0 where
  pub at : Attachment
  pub seated : OnLater (has_node small) (has_node later) at
  pub in_big : home_in before (only v (grown_over before big later)) p ≡ attached_over before big at
  pub in_small : home_in before (only v (grown_over before small later)) p ≡ attached_over before small at
  -- the version is a closed part of the second tree too
  pub closed : ClosedPart v (grown_over before small later)

abbrev pub HomeIsOne : Type 0
HomeIsOne =
    (before : Name → Name → Bool) → Ordered before → (big small : Tree) → Grown big → Grown small → Agrees before big small
    → (later : List Node) → LaterNodes (has_node big) (has_node small) later
    → (v : Name → Bool) → ((y : Name) → has_node big y ≡ true → v y ≡ true) → ClosedPart v (grown_over before big later)
    → (p : Attachment) → Origin (λ y. has_node (grown_over before small later) y && v y) p
    → OneHome before big small later v p

-- So the trees agree with the new event in each, and it is one more later node.
pub record GrewAlike (before : Name → Name → Bool) (big small : Tree) (later : List Node) (v : Name → Bool) (p : Attachment) (x : Name) (c : Character) : Type 0 where
  pub at : Attachment
  pub laid : LaterNodes (has_node big) (has_node small) (new_node x at c ∷ later)
  pub in_big : new_node x (home_in before (only v (grown_over before big later)) p) c ∷ grown_over before big later ≡ grown_over before big (new_node x at c ∷ later)
  pub in_small : new_node x (home_in before (only v (grown_over before small later)) p) c ∷ grown_over before small later ≡ grown_over before small (new_node x at c ∷ later)
  pub agree : Agrees before (new_node x (home_in before (only v (grown_over before big later)) p) c ∷ grown_over before big later) (new_node x (home_in before (only v (grown_over before small later)) p) c ∷ grown_over before small later)

abbrev pub NewNodesAgree : Type 0
NewNodesAgree =
    (before : Name → Name → Bool) → Ordered before → (big small : Tree) → Grown big → Grown small → Agrees before big small
    → (later : List Node) → LaterNodes (has_node big) (has_node small) later
    → (v : Name → Bool) → ((y : Name) → has_node big y ≡ true → v y ≡ true) → ClosedPart v (grown_over before big later)
    → (p : Attachment) → Origin (λ y. has_node (grown_over before small later) y && v y) p
    → (x : Name) (c : Character) → has_node (grown_over before big later) x ≡ false → GrewAlike before big small later v p x c

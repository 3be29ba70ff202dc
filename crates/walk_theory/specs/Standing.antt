-- The index beside the true tree: at the start, at each new event, and at a checkpoint.
use Rattle.std.specs.Prelude.{◌≡◌, ℕ, ◌≤◌, Bool, true, false, ◌&&◌, List, [], ◌∷◌, ◌++◌, length, take, drop}
use Rattle.events.specs.declared.name.Name.{Name}
use Rattle.events.specs.declared.character.Character.{Character}
use Rattle.fugue.specs.Names.{Ordered}
use Rattle.fugue.specs.Tree.{Attachment, root, right_of, Node, Tree, sequence, only, ClosedPart, has_node, Grown}
use Rattle.walk_theory.specs.Origins.{Origin, behind, new_node}
use Rattle.walk_theory.specs.Search.{home, place_for}
use Rattle.walk_theory.specs.Bases.{home_in, grown_over, LaterNodes, node_names, Agrees}

-- Of the true tree `whole`, the closed-off part is `big`, and `later` are the nodes of the later events.
-- The index lists `listed`, the sequence of its own tree over `small`, which has the nodes of `big` that were kept.
pub record Stands (before : Name → Name → Bool) (big small : Tree) (later : List Node) (whole : Tree) (listed : List Node) : Type 0 where
  pub old : Grown big
  pub kept : Grown small
  pub agree : Agrees before big small
  pub laid : LaterNodes (has_node big) (has_node small) later
  pub is_whole : whole ≡ grown_over before big later
  pub is_listed : listed ≡ sequence before (grown_over before small later)

-- what it says of the list: the sequence of the whole tree, less what was dropped
abbrev pub ListsTheSequence : Type 0
ListsTheSequence =
    (before : Name → Name → Bool) → Ordered before → (big small : Tree) (later : List Node) (whole : Tree) (listed : List Node) → Stands before big small later whole listed
    → (Grown whole) × (node_names listed ≡ node_names (only (λ y. has_node (grown_over before small later) y) (sequence before whole)))

-- with nothing closed off, the index lists the sequence
abbrev pub StandsAtFirst : Type 0
StandsAtFirst = (before : Name → Name → Bool) → Ordered before → (t : Tree) → Grown t → Stands before [] [] t t (sequence before t)

-- each hangs at the right of the one before
abbrev pub in_chain : Attachment → List Node → List Node
in_chain q [] = []
in_chain q (n ∷ ns) = record { name = n.name; attachment = q; character = n.character } ∷ in_chain (right_of n.name) ns

abbrev pub chain_tree : Tree → Attachment → List Node → Tree
chain_tree t q [] = t
chain_tree t q (n ∷ ns) = chain_tree (record { name = n.name; attachment = q; character = n.character } ∷ t) (right_of n.name) ns

-- A checkpoint keeps some of the listed nodes, and links them. Then all is closed off.
abbrev pub CheckpointStands : Type 0
CheckpointStands =
    (before : Name → Name → Bool) → Ordered before → (big small : Tree) (later : List Node) (whole : Tree) (listed : List Node) → Stands before big small later whole listed
    → (keep : Name → Bool) → Stands before whole (chain_tree [] root (only keep listed)) [] whole (in_chain root (only keep listed))

-- A new event: the walk finds its home and its place in the list, and all stands again. Its node hangs in the true tree where its version says.
pub record StepStands (before : Name → Name → Bool) (big small : Tree) (later : List Node) (whole : Tree) (listed : List Node) (d : ℕ) (v : Name → Bool) (p : Attachment) (x : Name) (c : Character) : Type 0 where
  pub at : Attachment
  pub stands : Stands before big small (new_node x at c ∷ later) (new_node x (home_in before (only v whole) p) c ∷ whole)
      (take (place_for before d listed v p x) listed ++ new_node x (home d listed p (only v (behind p listed))) c ∷ drop (place_for before d listed v p x) listed)

abbrev pub WalkStands : Type 0
WalkStands =
    (before : Name → Name → Bool) → Ordered before → (big small : Tree) (later : List Node) (whole : Tree) (listed : List Node) → Stands before big small later whole listed
    → (d : ℕ) → length listed ≤ d
    → (v : Name → Bool) → ((y : Name) → has_node big y ≡ true → v y ≡ true) → ClosedPart v whole
    → (p : Attachment) → Origin (λ y. has_node listed y && v y) p
    → (x : Name) (c : Character) → has_node whole x ≡ false
    → StepStands before big small later whole listed d v p x c

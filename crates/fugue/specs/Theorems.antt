-- What is proved of versions, trees, texts, edits and archive order, under every sibling order.
use Rattle.std.specs.Prelude.{◌≢◌, ◌≤◌, ◌<◌, ◌≡◌, ◌⊎◌, ◌↔◌, ◌∷◌, ◌++◌}
use Rattle.fugue.specs.Vocabulary.{ℕ, Bool, true, false, not, List, [], reverse, length, nth, Some, AllByRecursion, Each, kept_by, Name, Character, Position, Deed, NamedEvent, StoredEvent, SameEvent}
use Rattle.events.specs.declared.deed.Deed.TheVariants.{Insert, Delete}
use Rattle.fugue.specs.declared.edit.Edit.{Edit}
use Rattle.fugue.specs.declared.edit.Edit.TheVariants as edit
use Rattle.fugue.specs.Names.{has, Ordered, ◌∈◌, Rising}
use Rattle.fugue.specs.Logs.{NewestFirst, names, version, InVersion, Distinct, ParentsHeld, SameEvents, log_of, numbered}
use Rattle.fugue.specs.Tree.{Node, Tree, sequence, SequenceOf, only, node_names, Grown}
use Rattle.fugue.specs.Paths.{Step, path, path_before, precedes}
use Rattle.fugue.specs.Placements.{inserted, beyond, LeftOrigin, left_origin, following, visible, attachment_after, seen, placement_in, tree_at, text_at, tree, text}
use Rattle.fugue.specs.Edits.{edit, carry_out, Fits}
use Rattle.fugue.specs.Archive.{Admissible, ArchiveOrder}

-- A version is its heads and all behind them, and nothing else.
abbrev pub VersionIsHeadsAndBehind : Type 0
VersionIsHeadsAndBehind =
    (log : NewestFirst) → Distinct log → ParentsHeld log → (heads : List Name) (x : Name) → x ∈ version log heads ↔ InVersion log heads x

-- All events held form a version, that of all their names.
abbrev pub WholeLogIsAVersion : Type 0
WholeLogIsAVersion =
    (before : Name → Name → Bool) (log : NewestFirst)
    → (tree_at before log (names log) ≡ tree before log) × (text_at before log (names log) ≡ text before log)

-- A tree has exactly one sequence, the one computed.
abbrev pub TreeHasOneSequence : Type 0
TreeHasOneSequence =
    (before : Name → Name → Bool) → Ordered before → (t : Tree) → Grown t → (s : List Node) → SequenceOf before t s ↔ (s ≡ sequence before t)

-- the order of paths is strict and total
pub record PathOrder (before : Name → Name → Bool) : Type 0 where
  pub irreflexive : (p : List Step) → path_before before p p ≡ false
  pub transitive : (p q r : List Step) → path_before before p q ≡ true → path_before before q r ≡ true → path_before before p r ≡ true
  pub total : (p q : List Step) → (path_before before p q ≡ true) ⊎ ((p ≡ q) ⊎ (path_before before q p ≡ true))

-- the sequence is the one list of the tree's nodes that rises by their paths, and two nodes never have one path
pub record ByPaths (before : Name → Name → Bool) (t : Tree) : Type 0 where
  pub rises : Rising (λ m n. precedes before t m.name n.name ≡ true) (sequence before t)
  pub members : (n : Node) → n ∈ sequence before t ↔ n ∈ t
  pub alone : (s : List Node) → Rising (λ m n. precedes before t m.name n.name ≡ true) s → ((n : Node) → n ∈ s ↔ n ∈ t) → s ≡ sequence before t
  pub apart : (m n : Node) → m ∈ t → n ∈ t → path t m.name ≡ path t n.name → m ≡ n

-- The sequence rises by paths, and the order of paths is strict and total.
abbrev pub SequenceRisesByPaths : Type 0
SequenceRisesByPaths = (before : Name → Name → Bool) → Ordered before → PathOrder before × ((t : Tree) → Grown t → ByPaths before t)

-- The sequence of a version within a larger one is the part of the larger one's that it has. Its tree is grown: attachments stay inside their version.
abbrev pub SequencesAreNested : Type 0
SequencesAreNested =
    (before : Name → Name → Bool) → Ordered before → (log : NewestFirst) → Distinct log
    → (heads more : List Name) → ((x : Name) → x ∈ version log heads → x ∈ version log more)
    → (sequence before (tree_at before log heads) ≡ only (has (version log heads)) (sequence before (tree_at before log more)))
    × Grown (tree_at before log heads)

-- the node of an event e that inserts c after the left origin o
pub record NewNode (before : Name → Name → Bool) (log : NewestFirst) (e : NamedEvent) (c : Character) (o : LeftOrigin) : Type 0 where
  pub node : Node
  pub is : placement_in before log e ≡ inserted node
  pub parts : (node.name ≡ e.name) × (node.character ≡ c) × (node.attachment ≡ attachment_after before (tree_at before log e.parents) o)
  -- it comes after exactly the nodes that precede it
  pub comes : sequence before (tree before (e ∷ log))
      ≡ kept_by (λ m. precedes before (tree before (e ∷ log)) m.name e.name) (sequence before (tree before log))
      ++ node ∷ kept_by (λ m. not (precedes before (tree before (e ∷ log)) m.name e.name)) (sequence before (tree before log))
  -- which of its parents' version are exactly those that do not follow the left origin
  pub among : AllByRecursion (λ m. precedes before (tree before (e ∷ log)) m.name e.name
      ≡ not (has (node_names (following o (sequence before (tree_at before log e.parents)))) m.name)) (sequence before (tree_at before log e.parents))

-- A new node goes after exactly the nodes that precede it; of its parents' version these are exactly those up to its left origin.
abbrev pub NewNodeHasItsPlace : Type 0
NewNodeHasItsPlace =
    (before : Name → Name → Bool) → Ordered before → (log : NewestFirst) (e : NamedEvent) → Distinct (e ∷ log)
    → (c : Character) (p : Position) → e.deed ≡ Insert c p
    → (o : LeftOrigin) → left_origin (visible before (seen before log e.parents)) p.at ≡ Some o → NewNode before log e c o

-- the position of a deed is past a text of n characters
abbrev pub PastTheText : Deed → ℕ → Type 0
PastTheText (Insert c p) n = n < p.at
PastTheText (Delete p) n = n ≤ p.at

-- the edit that a deed is at its own position
abbrev pub asked : Deed → Edit
asked (Insert c p) = edit.Insert p.at
asked (Delete p) = edit.Delete p.at

-- An event lies beyond where its position is past its parents' text; else its own version reads as that text with its deed done.
abbrev pub DeedDoesWhatItSays : Type 0
DeedDoesWhatItSays =
    (before : Name → Name → Bool) → Ordered before → (log : NewestFirst) (e : NamedEvent) → Distinct (e ∷ log)
    → ((placement_in before log e ≡ beyond) ↔ PastTheText e.deed (length (text_at before log e.parents)))
    × ((placement_in before log e ≢ beyond) → text_at before (e ∷ log) (e.name ∷ []) ≡ carry_out e (asked e.deed) (text_at before log e.parents))

-- what two logs have in common; their archive orders are the same event by event
pub record MeansTheSame (before : Name → Name → Bool) (a b : NewestFirst) : Type 0 where
  pub versions : (heads tops : List Name) → ((x : Name) → x ∈ heads ↔ x ∈ tops) → text_at before a heads ≡ text_at before b tops
  pub whole : text before a ≡ text before b
  pub edits : (e d : NamedEvent) → SameEvent e d → has (names a) e.name ≡ false → edit before a e ≡ edit before b d
  pub archives : (es fs : List NamedEvent) → ArchiveOrder before a es → ArchiveOrder before b fs → Each SameEvent es fs

-- Two logs that hold the same events, in whatever order, mean the same.
abbrev pub SameEventsMeanTheSame : Type 0
SameEventsMeanTheSame =
    (before : Name → Name → Bool) → Ordered before → (a b : NewestFirst) → Distinct a → ParentsHeld a → Distinct b → ParentsHeld b
    → SameEvents a b → MeansTheSame before a b

-- The edit of a new event fits the old text, and carried out on it gives the new text: for inserts, for first deletes and for later ones.
abbrev pub EditGivesTheText : Type 0
EditGivesTheText =
    (before : Name → Name → Bool) → Ordered before → (log : NewestFirst) (e : NamedEvent) → Distinct (e ∷ log)
    → (text before (e ∷ log) ≡ carry_out e (edit before log e) (text before log)) × Fits (edit before log e) (text before log)

-- an archive order has every event once and after its parents, and is admissible where the log is
pub record Archived (before : Name → Name → Bool) (log : NewestFirst) (es : List NamedEvent) : Type 0 where
  pub every : (e : NamedEvent) → e ∈ es ↔ e ∈ log
  pub once : Distinct (reverse es)
  pub after : ParentsHeld (reverse es)
  pub admissible : Admissible before log → Admissible before (reverse es)
  -- numbered by it, parents have rising numbers below the event's own; the log is admissible again and has the same events
  pub below : (i : ℕ) (e : StoredEvent) → nth (numbered es) i ≡ Some e → AllByRecursion (λ p. p < i) e.parents × Rising (λ p q. p < q) e.parents
  pub same : SameEvents (log_of (numbered es)) log
  pub again : Admissible before log → Admissible before (log_of (numbered es))

-- Archive order exists and is unique.
abbrev pub ArchiveOrderIsOne : Type 0
ArchiveOrderIsOne =
    (before : Name → Name → Bool) → Ordered before → (log : NewestFirst) → Distinct log → ParentsHeld log
    → (es : List NamedEvent) × ArchiveOrder before log es × ((fs : List NamedEvent) → ArchiveOrder before log fs → fs ≡ es) × Archived before log es

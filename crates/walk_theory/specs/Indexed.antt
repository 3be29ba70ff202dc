-- An index beside a log whose oldest events are closed off.
--     Holds         the index lists what the log has, less what closed-off events struck
--     Sees          a version has every closed-off event
--     shown_at       what the index shows of a version
--     put_in         the list with a new node, where the search puts it
--     Inserts, Deletes, TakesIn   what a new event does to the index and to the text
use Rattle.std.specs.Prelude.{◌≡◌, ℕ, ◌≤◌, Bool, true, false, cond, not, ◌&&◌, List, [], ◌∷◌, ◌++◌, length, take, drop, Some, None, filter}
use Rattle.std.specs.List.{AllByRecursion, slice_get}
use Rattle.events.specs.declared.name.Name.{Name}
use Rattle.events.specs.declared.character.Character.{Character}
use Rattle.events.specs.declared.position.Position.{Position}
use Rattle.events.specs.declared.deed.Deed.TheVariants as deed
use Rattle.events.specs.Parts.{NamedEvent}
use Rattle.fugue.specs.declared.edit.Edit.TheVariants.{Insert, Delete, Nothing}
use Rattle.fugue.specs.Names.{has, Ordered}
use Rattle.fugue.specs.Logs.{NewestFirst, version, Distinct}
use Rattle.fugue.specs.Tree.{Attachment, root, Node, Tree, sequence, only, node_names, has_node}
use Rattle.fugue.specs.Placements.{inserted, deleted, beyond, struck, LeftOrigin, left_origin, right_end_of, visible, attachment_after, placements, seen, placement_in, tree_at, tree}
use Rattle.fugue.specs.Edits.{in_front_of, edit}
use Rattle.walk_theory.specs.Origins.{behind, new_node}
use Rattle.walk_theory.specs.Search.{home, place_for}
use Rattle.walk_theory.specs.Standing.{Stands, in_chain, chain_tree}

pub record Holds (before : Name → Name → Bool) (log closed : NewestFirst) (small : Tree) (later listed : List Node) : Type 0 where
  pub recent : NewestFirst
  pub is : log ≡ recent ++ closed
  pub stands : Stands before (tree before closed) small later (tree before log) listed
  pub gone : (y : Name) → has_node (tree before log) y ≡ true → has_node listed y ≡ false → struck (placements before closed) y ≡ true

abbrev pub Sees : NewestFirst → List Name → NewestFirst → Type 0
Sees log heads closed = AllByRecursion (λ e. has (version log heads) e.name ≡ true) closed

-- in the text of all events
abbrev pub unstruck : (Name → Name → Bool) → NewestFirst → Name → Bool
unstruck before log y = not (struck (placements before log) y)

-- the listed nodes that the version has and does not strike
abbrev pub shown_at : (Name → Name → Bool) → NewestFirst → List Name → List Node → List Node
shown_at before log heads listed = filter (λ n. has (version log heads) n.name && not (struck (seen before log heads) n.name)) listed

-- The index shows every version that has all closed-off events, and the text of all.
abbrev pub ShowsVersions : Type 0
ShowsVersions =
    (before : Name → Name → Bool) → Ordered before → (log closed : NewestFirst) → Distinct log → (small : Tree) (later listed : List Node)
    → Holds before log closed small later listed → (heads : List Name) → Sees log heads closed
    → node_names (visible before (seen before log heads)) ≡ node_names (shown_at before log heads listed)

abbrev pub ShowsTheText : Type 0
ShowsTheText =
    (before : Name → Name → Bool) → Ordered before → (log closed : NewestFirst) → Distinct log → (small : Tree) (later listed : List Node)
    → Holds before log closed small later listed
    → node_names (visible before (placements before log)) ≡ node_names (only (unstruck before log) listed)

-- With nothing closed off, the index lists the sequence.
abbrev pub HoldsAtFirst : Type 0
HoldsAtFirst =
    (before : Name → Name → Bool) → Ordered before → (log : NewestFirst) → Distinct log
    → Holds before log [] [] (tree before log) (sequence before (tree before log))

-- A checkpoint keeps what is in the text, in a chain, and closes off all events.
abbrev pub HoldsAtCheckpoint : Type 0
HoldsAtCheckpoint =
    (before : Name → Name → Bool) → Ordered before → (log closed : NewestFirst) → Distinct log → (small : Tree) (later listed : List Node)
    → Holds before log closed small later listed
    → Holds before log log (chain_tree [] root (only (unstruck before log) listed)) [] (in_chain root (only (unstruck before log) listed))

-- the place that the search finds for an event's node behind a left origin, and the list with it
module _ (before : Name → Name → Bool) (e : NamedEvent) (log : NewestFirst) (listed : List Node) (d : ℕ) (o : LeftOrigin) where
  abbrev pub place_in : ℕ
  place_in = place_for before d listed (has (version log e.parents)) (right_end_of o) e.name

  abbrev pub home_in_index : Attachment
  home_in_index = home d listed (right_end_of o) (only (has (version log e.parents)) (behind (right_end_of o) listed))

  abbrev pub put_in : Character → List Node
  put_in c = take place_in listed ++ new_node e.name home_in_index c ∷ drop place_in listed

pub record Inserts (before : Name → Name → Bool) (e : NamedEvent) (log closed : NewestFirst) (small : Tree) (later listed : List Node) (d : ℕ) (o : LeftOrigin) (c : Character) : Type 0 where
  pub at : Attachment
  pub placed : placement_in before log e ≡ inserted (new_node e.name (attachment_after before (tree_at before log e.parents) o) c)
  pub holds : Holds before (e ∷ log) closed small (new_node e.name at c ∷ later) (put_in before e log listed d o c)
  -- the edit counts what is in the text in front of the place
  pub edited : edit before log e ≡ Insert (length (only (unstruck before log) (take (place_in before e log listed d o) listed)))

pub record Deletes (before : Name → Name → Bool) (e : NamedEvent) (log closed : NewestFirst) (small : Tree) (later listed : List Node) (n : Node) : Type 0 where
  pub placed : placement_in before log e ≡ deleted n.name
  pub holds : Holds before (e ∷ log) closed small later listed
  pub edited : edit before log e ≡ cond (struck (placements before log) n.name) Nothing (Delete (length (only (unstruck before log) (in_front_of n.name listed))))

-- a new event by what the index shows of its parents' version
pub record TakesIn (before : Name → Name → Bool) (e : NamedEvent) (log closed : NewestFirst) (small : Tree) (later listed : List Node) (d : ℕ) : Type 0 where
  pub inserts : (c : Character) (p : Position) → e.deed ≡ deed.Insert c p → (o : LeftOrigin) → left_origin (shown_at before log e.parents listed) p.at ≡ Some o
      → Inserts before e log closed small later listed d o c
  pub deletes : (p : Position) → e.deed ≡ deed.Delete p → (n : Node) → slice_get (shown_at before log e.parents listed) p.at ≡ Some n
      → Deletes before e log closed small later listed n
  pub insert_beyond : (c : Character) (p : Position) → e.deed ≡ deed.Insert c p → left_origin (shown_at before log e.parents listed) p.at ≡ None
      → placement_in before log e ≡ beyond
  pub delete_beyond : (p : Position) → e.deed ≡ deed.Delete p → slice_get (shown_at before log e.parents listed) p.at ≡ None
      → placement_in before log e ≡ beyond

-- The index goes on with every event whose parents' version has all closed-off events; d is as deep as the list is long.
abbrev pub GoesOn : Type 0
GoesOn =
    (before : Name → Name → Bool) → Ordered before → (e : NamedEvent) (log closed : NewestFirst) → Distinct (e ∷ log)
    → (small : Tree) (later listed : List Node) → Holds before log closed small later listed → Sees log e.parents closed
    → (d : ℕ) → length listed ≤ d → TakesIn before e log closed small later listed d

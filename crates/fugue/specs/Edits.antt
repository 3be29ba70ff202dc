-- The edit that a newly held event hands out, and what it does to a page.
use Rattle.std.specs.Prelude.{◌≤◌, ◌<◌, ◌∷◌, ◌++◌}
use Rattle.fugue.specs.Vocabulary.{ℕ, suc, Bool, cond, not, List, [], length, take, drop, kept_by, Name, Character, Deed, NamedEvent}
use Rattle.events.specs.declared.deed.Deed.TheVariants as deed
use Rattle.fugue.specs.declared.edit.Edit.{Edit}
use Rattle.fugue.specs.declared.edit.Edit.TheVariants.{Insert, Delete, Nothing}
use Rattle.fugue.specs.Names.{same}
use Rattle.fugue.specs.Logs.{NewestFirst}
use Rattle.fugue.specs.Tree.{Node, sequence}
use Rattle.fugue.specs.Placements.{Placement, inserted, deleted, beyond, Placed, nodes, struck, placements, placement_in}

-- the nodes of a sequence in front of one
abbrev pub in_front_of : Name → List Node → List Node
in_front_of x [] = []
in_front_of x (n ∷ ns) = cond (same n.name x) [] (n ∷ in_front_of x ns)

-- how many characters of the text are in front of a node of the sequence
abbrev pub count_before : List Placed → Name → List Node → ℕ
count_before ps x s = length (kept_by (λ n. not (struck ps n.name)) (in_front_of x s))

module _ (before : Name → Name → Bool) where
  -- an insert counts in the sequence that has the new node; to delete what is struck already is no edit
  abbrev pub edit_of : List Placed → Placement → Edit
  edit_of ps (inserted n) = Insert (count_before ps n.name (sequence before (n ∷ nodes ps)))
  edit_of ps (deleted x) = cond (struck ps x) Nothing (Delete (count_before ps x (sequence before (nodes ps))))
  edit_of ps beyond = Nothing

  -- the edit of an event that is new to the log
  unfoldable pub edit : NewestFirst → NamedEvent → Edit
  edit log e = edit_of (placements before log) (placement_in before log e)

-- the character that a deed inserts, if it does
abbrev pub character_of : Deed → List Character
character_of (deed.Insert c p) = c ∷ []
character_of (deed.Delete p) = []

-- An insert at q puts the event's character in front of the page's character q, or last; a delete at q takes that one away.
abbrev pub carry_out : NamedEvent → Edit → List Character → List Character
carry_out e (Insert q) page = take q page ++ (character_of e.deed ++ drop q page)
carry_out e (Delete q) page = take q page ++ drop (suc q) page
carry_out e Nothing page = page

-- the page has the edit's position
abbrev pub Fits : Edit → List Character → Type 0
Fits (Insert q) page = q ≤ length page
Fits (Delete q) page = q < length page
Fits Nothing page = Unit {0}

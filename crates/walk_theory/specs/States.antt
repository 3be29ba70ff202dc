-- How often the events of a version touch a character: once by its insert, and once by each delete of it.
--     touches       a placement is that of the character's node, or strikes it
--     state_in      the state of a character among placed events: how many of them touch it
--     StatesTell    what states say of a version
use Rattle.std.specs.Prelude.{◌≡◌, ℕ, Bool, true, false, not, ◌&&◌, List, length, filter, ◌==◌, nat_lt}
use Rattle.events.specs.declared.name.Name.{Name}
use Rattle.fugue.specs.Names.{same, has}
use Rattle.fugue.specs.Logs.{NewestFirst, version, Distinct}
use Rattle.fugue.specs.Tree.{has_node}
use Rattle.fugue.specs.Placements.{Placement, inserted, deleted, beyond, Placed, struck, seen, tree}

abbrev pub touches : Placement → Name → Bool
touches (inserted n) x = same n.name x
touches (deleted y) x = same y x
touches beyond x = false

abbrev pub state_in : List Placed → Name → ℕ
state_in ps x = length (filter (λ p. touches p.placement x) ps)

-- A version has a character exactly if its state there is above 0, and shows it exactly if it is 1.
abbrev pub StatesTell : Type 0
StatesTell =
    (before : Name → Name → Bool) (log : NewestFirst) → Distinct log → (heads : List Name) (x : Name) → has_node (tree before log) x ≡ true
    → (nat_lt 0 (state_in (seen before log heads) x) ≡ has (version log heads) x)
    × ((state_in (seen before log heads) x == 1) ≡ (has (version log heads) x && not (struck (seen before log heads) x)))

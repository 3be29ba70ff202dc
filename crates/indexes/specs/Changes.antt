-- What each change does to a list of entries.
--   can_put    whether an entry for a character may go to a place
--   at_place   one entry changed, nothing beyond the length
--   trimmed    the entries that are present, as one chain on the right of the root
use Rattle.std.specs.Prelude.{ℕ, zero, suc, Bool, not, ◌&&◌, List, [], ◌∷◌, length, filter, nat_le, nat_lt}
use Rattle.indexes.specs.declared.entry.Entry.{Entry}
use Rattle.indexes.specs.declared.entry.Attachment.{Attachment}
use Rattle.indexes.specs.declared.entry.Attachment.TheVariants.{Root, RightOf}
use Rattle.indexes.specs.Entries.{is_present, renewed}
use Rattle.indexes.specs.Questions.{listed}

abbrev pub can_put : List Entry → ℕ → ℕ → ℕ → Bool
can_put es room place c = nat_le place (length es) && not (listed es c) && nat_lt (length es) room

abbrev pub at_place : (Entry → Entry) → List Entry → ℕ → List Entry
at_place f [] i = []
at_place f (e ∷ es) zero = f e ∷ es
at_place f (e ∷ es) (suc i) = e ∷ at_place f es i

-- the first hangs at `a`, each next on the right of the one before
abbrev pub chained : Attachment → List Entry → List Entry
chained a [] = []
chained a (e ∷ es) = renewed a e ∷ chained (RightOf e.character) es

abbrev pub trimmed : List Entry → List Entry
trimmed es = chained Root (filter is_present es)

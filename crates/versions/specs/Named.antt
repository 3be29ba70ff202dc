-- A version by the numbers of its events, and the version of the same events by their names.
use Rattle.std.specs.Prelude.{◌≡◌, ℕ, ◌↔◌, List, map, Some}
use Rattle.std.specs.List.{flat_map, slice_get}
use Rattle.events.specs.declared.name.Name.{Name}
use Rattle.events.specs.Parts.{StoredEvent}
use Rattle.events.specs.WellFormed.{WellFormed}
use Rattle.fugue.specs.Logs.{log_of, name_at}
use Rattle.fugue.specs.Logs as log
use Rattle.versions.specs.Versions.{InVersion}

-- the names of some numbers
abbrev pub names_of : List StoredEvent → List ℕ → List Name
names_of es numbers = flat_map (name_at (map (λ e. e.name) es)) numbers

-- An event is in the version of some numbers just where its name is in the version of their names.
abbrev pub VersionsAreAlike : Type 0
VersionsAreAlike = (es : List StoredEvent) → WellFormed es → (heads : List ℕ) (x : ℕ) (e : StoredEvent) → slice_get es x ≡ Some e → InVersion es heads x ↔ log.InVersion (log_of es) (names_of es heads) e.name

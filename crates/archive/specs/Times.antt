-- How often a list has a value.
use Rattle.std.specs.Prelude.{ℕ, ◌+◌, Bool, cond, List, [], ◌∷◌, nat_eq}
use Rattle.events.specs.declared.name.Name.{Name}
use Rattle.fugue.specs.Names.{same}

abbrev pub times : {X : Type 0} → (X → X → Bool) → List X → X → ℕ
times alike [] x = 0
times alike (y ∷ ys) x = cond (alike y x) 1 0 + times alike ys x

-- of a list of names
abbrev pub times_named : List Name → Name → ℕ
times_named xs x = times same xs x

-- of a list of event numbers
abbrev pub times_numbered : List ℕ → ℕ → ℕ
times_numbered xs x = times nat_eq xs x

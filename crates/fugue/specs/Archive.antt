-- What makes a log admissible, and the order in which it is archived.
use Rattle.std.specs.Prelude.{◌≢◌, ◌≤◌, ◌≡◌, ◌∷◌}
use Rattle.fugue.specs.Vocabulary.{Bool, true, false, List, [], length, AllByRecursion, Name, NamedEvent}
use Rattle.fugue.specs.Names.{has, ◌∈◌, Rising}
use Rattle.fugue.specs.Logs.{NewestFirst, names, Behind}
use Rattle.fugue.specs.Placements.{beyond, placement_in}

-- The log may go on with the event: a new name; parents that are held, at most four, none twice, none behind another; no position beyond.
pub record Admits (before : Name → Name → Bool) (log : NewestFirst) (e : NamedEvent) : Type 0 where
  pub fresh : has (names log) e.name ≡ false
  pub held : AllByRecursion (λ p. has (names log) p ≡ true) e.parents
  pub few : length e.parents ≤ 4
  pub once : Rising (λ p q. p ≢ q) e.parents
  pub apart : (p q : Name) → p ∈ e.parents → q ∈ e.parents → Behind log p q → ⊥
  pub inside : placement_in before log e ≡ beyond → ⊥

-- each event was admitted by those before it
abbrev pub Admissible : (Name → Name → Bool) → NewestFirst → Type 0
Admissible before [] = Unit {0}
Admissible before (e ∷ older) = Admits before older e × Admissible before older

-- an event of the log that is not written, though its parents are; `written` are names
pub record Ready (written : List Name) (log : NewestFirst) (e : NamedEvent) : Type 0 where
  pub held : e ∈ log
  pub unwritten : has written e.name ≡ false
  pub after : AllByRecursion (λ p. has written p ≡ true) e.parents

-- of the ready events the one whose name comes first
pub record Next (before : Name → Name → Bool) (written : List Name) (log : NewestFirst) (e : NamedEvent) : Type 0 where
  pub ready : Ready written log e
  pub first : (d : NamedEvent) → Ready written log d → (d.name ≢ e.name) → before e.name d.name ≡ true

-- the next event, again and again, until all are written
abbrev pub WrittenFrom : (Name → Name → Bool) → List Name → NewestFirst → List NamedEvent → Type 0
WrittenFrom before written log [] = AllByRecursion (λ e. has written e.name ≡ true) log
WrittenFrom before written log (e ∷ es) = Next before written log e × WrittenFrom before (e.name ∷ written) log es

-- the events of the log in the order in which they are written from the first on
abbrev pub ArchiveOrder : (Name → Name → Bool) → NewestFirst → List NamedEvent → Type 0
ArchiveOrder before log es = WrittenFrom before [] log es

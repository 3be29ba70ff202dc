-- Logs of events, what is behind an event, and versions.
--     NewestFirst         a log: the events held, the newest first, parents by name
--     Behind log y x      x is behind y
--     version log heads   the names of a version, computed; InVersion says what they are
--     Distinct, ParentsHeld   no two events have one name; every parent is an older event
--     SameEvents a b      two logs hold the same events, in whatever order
--     log_of, numbered     from a store's events, parents by number, to a log, and back
use Rattle.std.specs.Prelude.{◌≡◌, ◌⊎◌, ◌∷◌, ◌++◌}
use Rattle.fugue.specs.Vocabulary.{ℕ, zero, suc, true, false, cond, List, [], map, reverse, AllByRecursion, joined, Name, NamedEvent, StoredEvent, SameEvent}
use Rattle.fugue.specs.Names.{has, ◌∈◌}

abbrev pub NewestFirst : Type 0
NewestFirst = List NamedEvent

-- of the events held
abbrev pub names : NewestFirst → List Name
names log = map (λ e. e.name) log

-- a parent of y, or behind a parent of y
pub data Behind (log : NewestFirst) : Name → Name → Type 0 where
  parent : {y x : Name} (e : NamedEvent) → e ∈ log → e.name ≡ y → x ∈ e.parents → Behind log y x
  further : {y x : Name} (e : NamedEvent) (p : Name) → e ∈ log → e.name ≡ y → p ∈ e.parents → Behind log p x → Behind log y x

-- From the newest event to the oldest: one that is a head is taken, and its parents become heads.
unfoldable pub version : NewestFirst → List Name → List Name
version [] heads = []
version (e ∷ older) heads =
    let taken = has heads e.name in
    let rest = version older (cond taken (e.parents ++ heads) heads) in
    cond taken (e.name ∷ rest) rest

-- an event held that is a head or behind one
abbrev pub InVersion : NewestFirst → List Name → Name → Type 0
InVersion log heads x = (x ∈ names log) × ((x ∈ heads) ⊎ ((h : Name) × (h ∈ heads) × Behind log h x))

abbrev pub Distinct : NewestFirst → Type 0
Distinct [] = Unit {0}
Distinct (e ∷ older) = (has (names older) e.name ≡ false) × Distinct older

abbrev pub ParentsHeld : NewestFirst → Type 0
ParentsHeld [] = Unit {0}
ParentsHeld (e ∷ older) = AllByRecursion (λ p. has (names older) p ≡ true) e.parents × ParentsHeld older

-- each event of a has a same event in b: name, deed and set of parents
abbrev pub Within : NewestFirst → NewestFirst → Type 0
Within a b = (e : NamedEvent) → e ∈ a → (d : NamedEvent) × (d ∈ b) × SameEvent e d

abbrev pub SameEvents : NewestFirst → NewestFirst → Type 0
SameEvents a b = Within a b × Within b a

-- the name of a number, if there is such an event
abbrev pub name_at : List Name → ℕ → List Name
name_at [] i = []
name_at (x ∷ xs) zero = x ∷ []
name_at (x ∷ xs) (suc i) = name_at xs i

-- a stored event with its parents by name
abbrev pub named_in : List StoredEvent → StoredEvent → NamedEvent
named_in events e = record { name = e.name; deed = e.deed; parents = joined (name_at (map (λ d. d.name) events)) e.parents }

-- the log of a store's events, which are the oldest first
abbrev pub log_of : List StoredEvent → NewestFirst
log_of events = reverse (map (named_in events) events)

-- the numbers, rising, of the names of a list that are among ps; the list's first has number k
abbrev pub numbers_from : ℕ → List Name → List Name → List ℕ
numbers_from k [] ps = []
numbers_from k (x ∷ xs) ps = let rest = numbers_from (suc k) xs ps in cond (has ps x) (k ∷ rest) rest

-- events, the oldest first, as a store has them
abbrev pub numbered : List NamedEvent → List StoredEvent
numbered es = map (λ e. record { name = e.name; deed = e.deed; parents = numbers_from 0 (names es) e.parents }) es

-- Versions of a store by the numbers of its events, and what is only in one of two.
--     Head         a number is among the heads
--     Parent       x is a parent of event y
--     InVersion    the events of a version: its heads, and the parents of what is in it
--     OnlyIn       in the first version and not in the second
--     Enumerates   numbers that stand one after another are those of a kind, the latest first
use Rattle.std.specs.Prelude.{◌≡◌, ℕ, ◌<◌, List, length, Some}
use Rattle.std.specs.List.{slice_get}
use Rattle.events.specs.Parts.{StoredEvent}
use Rattle.stores.specs.Questions.{parent_at}

abbrev pub Head : List ℕ → ℕ → Type 0
Head heads x = (k : ℕ) × (slice_get heads k ≡ Some x)

abbrev pub Parent : List StoredEvent → ℕ → ℕ → Type 0
Parent es y x = (k : ℕ) × (parent_at es y k ≡ Some x)

-- an event held that is a head, or a parent of an event in the version
pub data InVersion (es : List StoredEvent) (heads : List ℕ) : ℕ → Type 0 where
  head : {x : ℕ} → Head heads x → x < length es → InVersion es heads x
  parent : {y x : ℕ} → InVersion es heads y → Parent es y x → InVersion es heads x

abbrev pub OnlyIn : List StoredEvent → List ℕ → List ℕ → ℕ → Type 0
OnlyIn es first second x = InVersion es first x × (InVersion es second x → ⊥)

-- the n numbers `at` fall, each is of the kind, and each of the kind is among them
pub record Enumerates (n : ℕ) (at : ℕ → ℕ) (Kind : ℕ → Type 0) : Type 0 where
  pub falls : (i j : ℕ) → i < j → j < n → at j < at i
  pub only : (i : ℕ) → i < n → Kind (at i)
  pub all : (x : ℕ) → Kind x → (i : ℕ) × (i < n) × (at i ≡ x)

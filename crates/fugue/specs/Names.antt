-- Names, sibling orders, and members of lists.
use Rattle.std.specs.Prelude.{◌≢◌, ◌≡◌, ◌&&◌, ◌||◌, ◌⊎◌, ◌∷◌}
use Rattle.fugue.specs.Vocabulary.{Bool, true, false, not, List, [], eqb, AllByRecursion, Name}

-- the two names are one
abbrev pub same : Name → Name → Bool
same a b = eqb a.author b.author && eqb a.number b.number

-- the list has the name
abbrev pub has : List Name → Name → Bool
has [] x = false
has (y ∷ ys) x = same y x || has ys x

-- A sibling order: no name comes before itself, and of two different names exactly one comes before the other.
pub record Ordered (before : Name → Name → Bool) : Type 0 where
  pub irreflexive : (a : Name) → before a a ≡ false
  pub transitive : (a b c : Name) → before a b ≡ true → before b c ≡ true → before a c ≡ true
  pub total : (a b : Name) → a ≢ b → before a b ≡ not (before b a)

infix 30 ◌∈◌
-- x is a member of the list
abbrev pub ◌∈◌ : {X : Type 0} → X → List X → Type 0
x ∈ [] = ⊥
x ∈ (y ∷ ys) = (x ≡ y) ⊎ x ∈ ys

-- each element is in the relation R to all that come later
abbrev pub Rising : {X : Type 0} → (X → X → Type 0) → List X → Type 0
Rising R [] = Unit {0}
Rising R (x ∷ xs) = AllByRecursion (R x) xs × Rising R xs

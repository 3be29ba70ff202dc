-- Total orders, as a test that says of two values whether the one comes before the other.
use Rattle.std.specs.Prelude.{◌≡◌, Bool, true, false, not, ◌≢◌}

-- nothing comes before itself; what comes before a, which comes before b, comes before b; of two different values one comes before the other
pub record Total {X : Type 0} (first : X → X → Bool) : Type 0 where
  pub irreflexive : (a : X) → first a a ≡ false
  pub transitive : (a b c : X) → first a b ≡ true → first b c ≡ true → first a c ≡ true
  pub total : (a b : X) → a ≢ b → first a b ≡ not (first b a)

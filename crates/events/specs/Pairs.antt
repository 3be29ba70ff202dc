-- Of two different pairs of numbers exactly one comes before the other.
use Rattle.std.specs.Prelude.{◌≡◌, ℕ, not, ◌≢◌}
use Rattle.std.proofs.Common.{inl, inr, arith}
use Rattle.std.proofs.lemmas.Bool.{cases_eq}
use Rattle.std.proofs.lemmas.Bool.Decides.{nat_tests}
use Rattle.events.specs.Orders.{pair_before}

pub pair_total : (a b c d : ℕ) → (a ≡ c → b ≢ d) → pair_before a b c d ≡ not (pair_before c d a b)
pair_total a b c d ne =
    elim (cases_eq a c) [
      | inl p ↦ elim (cases_eq b d) [ inl q ↦ absurd (ne p q) | inr q ↦ grind (arith, nat_tests) ]
      | inr p ↦ grind (arith, nat_tests)
    ]

-- Where a search ends: nothing is pending, so that what was found is what the versions do not share.
use Rattle.std.proofs.Common.{◌≡◌, ℕ, ◌+◌, ◌-◌, ◌<◌, ◌≤◌, List, length, get_or, drop, ◌∙◌, arith}
use Rattle.std.proofs.lemmas.Bool.Decides.{nat_tests}
use Rattle.events.specs.Parts.{StoredEvent}
use Rattle.events.specs.WellFormed.{WellFormed}
use Rattle.versions.specs.declared.counters.Counters.{Counters}
use Rattle.versions.specs.Marks.{one_sided}
use Rattle.versions.specs.Searches.{marks, Stage}
use Rattle.versions.specs.Difference.{Known, Differ}
use Rattle.versions.proofs.Reached.{alone, either, enumerates_same}
use Rattle.versions.proofs.Queues.{share}
use Rattle.versions.proofs.Found.{found_moved}
use Rattle.versions.proofs.Starts.{drop_further}

pub ended : (es : List StoredEvent) → WellFormed es → (first second w start out new : List ℕ) (s : Counters) (bound : ℕ) → Known (length es) first → Known (length es) second → Stage es first second w out s bound → s.pending ≡ 0 → drop s.first out ≡ drop s.first start → ((i : ℕ) → i < s.first → get_or new i 0 ≡ get_or out i 0) → ((i : ℕ) → i < s.second → get_or new (s.first + i) 0 ≡ get_or w (s.room - 1 - i) 0) → drop (s.first + s.second) new ≡ drop (s.first + s.second) out → Differ es first second start new s.first s.second
ended es fit first second w start out new s bound p q st none kept front back rest = record {
  known = (p, q);
  firsts =
      found_moved s.first (λ i. get_or out i 0) (λ i. get_or new i 0) front
      (enumerates_same (alone es fit 2 1 (λ z. omega arith) (λ z. omega arith) st.of_first st.of_second (λ x low h. (h.0, λ z. let p = part x low in grind (arith, nat_tests)))) st.firsts);
  seconds =
      found_moved s.second (λ i. get_or w (s.room - 1 - i) 0) (λ i. get_or new (s.first + i) 0) back
      (enumerates_same (alone es fit 1 2 (λ z. omega arith) (λ z. omega arith) st.of_second st.of_first (λ x low h. (h.0, λ z. let p = part x low in grind (arith, nat_tests)))) st.seconds);
  first_is = λ x i. either es fit 2 1 (λ z. omega arith) (λ z. omega arith) st.of_first st.of_second (λ y low h. (h.0, λ z. let p = part y low in grind (arith, nat_tests))) x i;
  second_is = λ x i. either es fit 1 2 (λ z. omega arith) (λ z. omega arith) st.of_second st.of_first (λ y low h. (h.0, λ z. let p = part y low in grind (arith, nat_tests))) x i;
  few = omega (arith, st.few);
  kept = rest ∙ drop_further out start s.first (s.first + s.second) (omega arith) kept;
}
  where
    part : (x : ℕ) → x < bound → one_sided (marks w s x) ≤ s.pending
    part x low = share w s st.listed bound st.queued x low

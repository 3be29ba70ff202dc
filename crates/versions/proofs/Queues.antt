-- What the queue of a search holds, and that it does not depend on the cells behind it.
use Rattle.std.proofs.Common.{◌≡◌, ℕ, ◌+◌, ◌-◌, ◌<◌, ◌≤◌, eqb, ltb, List, [], ◌∷◌, length, get_or, take, drop, sym, ap, ◌∙◌, subst, inl, inr, arith}
use Rattle.std.proofs.lemmas.List.{get_or-drop, length-take-le}
use Rattle.std.proofs.lemmas.List.Sums.{sum_by-cons}
use Rattle.std.proofs.lemmas.Bool.{cases_eq, eq-eqb, ne_eqb, or_from, or_left, or_right}
use Rattle.std.proofs.lemmas.Bool.Decides.{nat_tests}
use Rattle.queue.specs.Heaps.{Heaped, parent}
use Rattle.versions.specs.declared.counters.Counters.{Counters}
use Rattle.versions.specs.Marks.{one_sided}
use Rattle.versions.specs.Searches.{marks, copies, open_in, Listed, Queued}
use Rattle.versions.proofs.Counts.{marked_le, share_le}

pub at_behind : (w v : List ℕ) (n k : ℕ) → drop n v ≡ drop n w → n ≤ k → get_or v k 0 ≡ get_or w k 0
at_behind w v n k same l =
    let at : n + (k - n) ≡ k = omega arith in
    subst (λ i. get_or v i 0 ≡ get_or w i 0) at (sym (get_or-drop n v (k - n) 0) ∙ ap (λ xs. get_or xs (k - n) 0) same ∙ get_or-drop n w (k - n) 0)

pub seen_le : (w : List ℕ) (s : Counters) → Listed w s → s.seen ≤ s.room
seen_le w s l = omega (arith, l.seen, marked_le (marks w s) s.room)

pub sided_none : (m : ℕ) → m ≡ 0 → one_sided m ≡ 0
sided_none m z = rw (or_from (eqb m 1) (eqb m 2) (ne_eqb m 1 (λ q. omega arith)) (ne_eqb m 2 (λ q. omega arith)))

pub sided_first : (m : ℕ) → m ≡ 1 → one_sided m ≡ 1
sided_first m q = rw (or_left (eqb m 1) (eqb m 2) (eq-eqb m 1 q))

pub sided_second : (m : ℕ) → m ≡ 2 → one_sided m ≡ 1
sided_second m q = rw (or_right (eqb m 1) (eqb m 2) (eq-eqb m 2 q))

pub sided_both : (m : ℕ) → (m ≡ 1 → ⊥) → (m ≡ 2 → ⊥) → one_sided m ≡ 0
sided_both m a b = rw (or_from (eqb m 1) (eqb m 2) (ne_eqb m 1 a) (ne_eqb m 2 b))

pub sided_le : (m : ℕ) → one_sided m ≤ 1
sided_le m = grind (arith, nat_tests)

open_le : (m : ℕ → ℕ) (xs : List ℕ) → open_in m xs ≤ length xs
open_le m [] = omega arith
open_le m (x ∷ xs) = grind (arith, nat_tests, open_le m xs, sum_by-cons (λ y. one_sided (m y)) x xs)

module _ (w : List ℕ) (s : Counters) (l : Listed w s) (bound : ℕ) (q : Queued w s bound) where
  pub pending_le : s.pending ≤ s.queued
  pending_le =
      omega (arith, q.pending, open_le (marks w s) (take s.queued w), length-take-le s.queued w (omega (arith, l.within, seen_le w s l, l.size)))

  pub once_in : (x : ℕ) → x < bound → (marks w s x ≡ 0 → ⊥) → copies x (take s.queued w) ≡ 1
  once_in x low some = let a = q.once x in grind (arith, nat_tests)

  pub once_out : (x : ℕ) → marks w s x ≡ 0 → copies x (take s.queued w) ≡ 0
  once_out x none = let a = q.once x in grind (arith, nat_tests)

  -- an event that may yet be found has its share of the count
  pub share : (x : ℕ) → x < bound → one_sided (marks w s x) ≤ s.pending
  share x low = elim (cases_eq (marks w s x) 0) [
    | inl z ↦ grind (arith, nat_tests)
    | inr n ↦ omega (arith, q.pending, share_le (λ y. one_sided (marks w s y)) x (take s.queued w) (omega (arith, once_in x low n)))
  ]

pub heaped_same : (w v : List ℕ) (len : ℕ) → ((k d : ℕ) → k < len → get_or v k d ≡ get_or w k d) → Heaped (λ a b. ltb b a) w len → Heaped (λ a b. ltb b a) v len
heaped_same w v len same h k d pos below = grind (arith, same k d, same (parent k) d, h k d)

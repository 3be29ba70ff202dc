-- What taking the latest event from the queue leaves.
use Rattle.std.proofs.Common.{◌≡◌, ℕ, suc, ◌+◌, ◌-◌, ◌<◌, ◌≤◌, cond, not, ◌&&◌, eqb, ltb, List, [], ◌∷◌, ◌++◌, length, get_or, take, sum_by, sym, refl, ap, ◌∙◌, inl, inr, arith}
use Rattle.std.proofs.lemmas.List.{get_or-take, length-take-le}
use Rattle.std.proofs.lemmas.List.Sums.{sum_by-cons, sum_by_push}
use Rattle.std.proofs.lemmas.List.Sorted.{sum_by-IsPermutation}
use Rattle.std.proofs.lemmas.Bool.{cases_eq, eq-eqb, ltb-false}
use Rattle.std.proofs.lemmas.Bool.Decides.{nat_tests}
use Rattle.queue.specs.Heaps.{Popped}
use Rattle.versions.specs.declared.counters.Counters.{Counters}
use Rattle.versions.specs.declared.search.Search.{Search}
use Rattle.versions.specs.Marks.{one_sided, told}
use Rattle.versions.specs.Searches.{marks, copies, Listed, Queued, Taken}
use Rattle.versions.specs.Held.{QueueHeld, mark_held}
use Rattle.versions.proofs.Cells.{mark_kept, mark_some}
use Rattle.versions.proofs.Counts.{marked_same, once_less, once_there}
use Rattle.versions.proofs.Queues.{at_behind, seen_le, once_in, pending_le, share}

abbrev pub fewer : Counters → ℕ → Counters
fewer s p = record { room = s.room; seen = s.seen; queued = s.queued - 1; pending = p; first = s.first; second = s.second }

pub sum_same : (f g : ℕ → ℕ) → ((x : ℕ) → g x ≡ f x) → (xs : List ℕ) → sum_by g xs ≡ sum_by f xs
sum_same f g same [] = refl
sum_same f g same (x ∷ xs) = omega (arith, sum_by-cons f x xs, sum_by-cons g x xs, same x, sum_same f g same xs)

place_of : (x : ℕ) (xs : List ℕ) → 0 < copies x xs → (k : ℕ) × (k < length xs) × (get_or xs k 0 ≡ x)
place_of x [] l = absurd (omega arith)
place_of x (y ∷ ys) l = elim (cases_eq y x) [
  | inl q ↦ (0, omega arith, q)
  | inr n ↦
      let r = place_of x ys (grind (arith, nat_tests, sum_by-cons (λ z. cond (eqb z x) 1 0) y ys)) in
      (suc r.0, omega (arith, r.1), r.2)
]

module _ (w v : List ℕ) (s : Counters) (e p : ℕ) (l : Listed w s) (level : length v ≡ length w) (pos : 0 < s.queued) (got : Popped (λ a b. ltb b a) w s.queued e v) where
  behind : (k : ℕ) → s.queued ≤ k → get_or v k 0 ≡ get_or w k 0
  behind k b = at_behind w v s.queued k got.behind b

  pub same : (x : ℕ) → marks v (fewer s p) x ≡ marks w s x
  same x = mark_kept w v s.room s.seen x (λ k b. behind k (omega (arith, l.within, seen_le w s l)))

  pub listed_then : Listed v (fewer s p)
  listed_then = record {
    size = omega (arith, l.size, level);
    small = l.small;
    seen = l.seen ∙ sym (marked_same (marks w s) (marks v (fewer s p)) s.room (λ x b. ap (λ y. cond (eqb y 0) 0 1) (same x)));
    within = omega (arith, l.within);
  }

  sum_then : (f : ℕ → ℕ) → sum_by f (take s.queued w) ≡ sum_by f (take (s.queued - 1) v) + f e
  sum_then f =
      sym (sum_by-IsPermutation f (take s.queued w) (take (s.queued - 1) v ++ e ∷ []) got.elements)
      ∙ sum_by_push f (take (s.queued - 1) v) e

  module _ (bound : ℕ) (q : Queued w s bound) where
    -- the event was in the queue
    pub was : (e < bound) × (marks w s e ≡ 0 → ⊥)
    was =
        let a = sum_then (λ y. cond (eqb y e) 1 0) in
        let b : cond {A = ℕ} (eqb e e) 1 0 ≡ 1 = rw (eq-eqb e e refl) in
        once_there (copies e (take s.queued w)) (marks w s e) e bound (q.once e) (omega arith)

    -- no event between it and the bound has a mark
    gap : (x : ℕ) → e < x → x < bound → marks w s x ≡ 0
    gap x above low = elim (cases_eq (marks w s x) 0) [
      | inl z ↦ z
      | inr n ↦
          let at = place_of x (take s.queued w) (omega (arith, once_in w s l bound q x low n)) in
          let short = length-take-le s.queued w (omega (arith, l.within, seen_le w s l, l.size)) in
          let k : at.0 < s.queued = omega (arith, at.1) in
          let le = ltb-false e (get_or w at.0 0) (got.leads q.heaped at.0 0 k) in
          absurd (omega (arith, at.2, get_or-take s.queued w at.0 0 k))
    ]

    once_then : (x : ℕ) → copies x (take (s.queued - 1) v) ≡ cond (not (eqb (marks v (fewer s p) x) 0) && ltb x e) 1 0
    once_then x =
        once_less (copies x (take s.queued w)) (copies x (take (s.queued - 1) v)) x e (marks w s x) (marks v (fewer s p) x) bound
        (sum_then (λ y. cond (eqb y x) 1 0)) (q.once x) (λ r z. was.1 (ap (marks w s) (sym r) ∙ z)) (gap x) (same x) was.0

    pub in_room : e < s.room
    in_room = (mark_some w s.room s.seen e was.1).0

    after : p + one_sided (marks w s e) ≡ s.pending → Queued v (fewer s p) e
    after is = record {
      heaped = got.ordered q.heaped;
      once = once_then;
      pending =
          omega (arith, is, q.pending, sum_then (λ y. one_sided (marks w s y)), sum_same (λ y. one_sided (marks w s y)) (λ y. one_sided (marks v (fewer s p) y)) (λ x. ap one_sided (same x)) (take (s.queued - 1) v));
    }

  pub taken : (m : ℕ) → m ≡ marks w s e → p + one_sided (marks w s e) ≡ s.pending → (bound : ℕ) → Queued w s bound → Taken w s v (fewer s p) e m
  taken m is_m is bound q = record {
    listed = listed_then;
    fields = (refl, refl, omega arith, refl, refl);
    mark = (is_m, λ z. (was bound q).1 (sym is_m ∙ z));
    marks_same = same;
    within = in_room bound q;
    queued = λ b r. ((was b r).0, after b r is, gap b r);
    kept = behind;
  }

-- what a pop leaves of a search in which something is pending
pub record Left (s : Search) (v : List ℕ) (e : ℕ) : Type 0 where
  pub listed : Listed v (fewer s.counters s.counters.pending)
  pub inside : e < s.counters.room
  pub marked : mark_held s e ≡ 0 → ⊥
  pub told_same : told (marks v (fewer s.counters s.counters.pending) e) ≡ told (mark_held s e)
  pub taken : (x : ℕ) → x ≡ one_sided (mark_held s e) → Taken s.work.now s.counters v (fewer s.counters (s.counters.pending - x)) e (mark_held s e)

pub some_queued : (s : Search) → ((bound : ℕ) × QueueHeld s bound) × (0 < s.counters.pending) → 0 < s.counters.queued
some_queued s q = omega (arith, pending_le s.work.now s.counters s.listed q.0.0 q.0.1, q.1)

pub left : (s : Search) (v : List ℕ) (e : ℕ) → ((bound : ℕ) × QueueHeld s bound) × (0 < s.counters.pending) → length v ≡ length s.work.now → Popped (λ a b. ltb b a) s.work.now s.counters.queued e v → Left s v e
left s v e q level got =
    let w = s.work.now in
    let at = s.counters in
    let pos = some_queued s q in
    let here = was w v at e at.pending s.listed level pos got q.0.0 q.0.1 in
    record {
      listed = listed_then w v at e at.pending s.listed level pos got;
      inside = in_room w v at e at.pending s.listed level pos got q.0.0 q.0.1;
      marked = here.1;
      told_same = ap told (same w v at e at.pending s.listed level pos got e);
      taken = λ x is.
          let le = share w at s.listed q.0.0 q.0.1 e here.0 in
          taken w v at e (at.pending - x) s.listed level pos got (marks w at e) refl (omega arith) q.0.0 q.0.1;
    }

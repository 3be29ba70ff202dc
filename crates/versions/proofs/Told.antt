-- The number in a cell, and the number of the mark that it tells.
use Rattle.std.proofs.Common.{◌≡◌, ℕ, ◌+◌, ◌-◌, ◌*◌, ◌<◌, ◌≤◌, ◌⊎◌, ◌↔◌, Bool, true, List, Some, None, length, set, ltb, refl, sym, ap, ◌∙◌, subst, inl, inr, arith}
use Rattle.std.proofs.lemmas.Bool.Decides.{nat_tests}
use Rattle.std.proofs.lemmas.Bool.{cases_lt, lt-ltb}
use Rattle.queue.specs.Heaps.{Pushed}
use Rattle.versions.specs.declared.counters.Counters.{Counters}
use Rattle.versions.specs.declared.search.Search.{Search}
use Rattle.versions.specs.declared.marks.Mark.{Mark}
use Rattle.versions.specs.declared.marks.Mark.TheVariants.{First, Second, Both}
use Rattle.versions.specs.Marks.{Marked, number_of, told, join, one_sided}
use Rattle.versions.specs.Searches.{marks, Noted, Written}
use Rattle.versions.specs.Held.{QueueHeld, mark_held}
use Rattle.versions.proofs.Queues.{share}
use Rattle.versions.proofs.Noted.{again, more, put, put_length, remarked, marked_first, room_left}

pub number_some : (o : Mark) → number_of o ≡ 0 → ⊥
number_some First z = omega (arith, z)
number_some Second z = omega (arith, z)
number_some Both z = omega (arith, z)

number_small : (o : Mark) → number_of o < 4
number_small First = omega arith
number_small Second = omega arith
number_small Both = omega arith

pub told_none : (k : ℕ) → None ≡ told k → k ≡ 0
told_none k h = grind (arith, nat_tests)

-- a cell has the number of the mark that it tells, or one above all
told_some : (k : ℕ) (o : Mark) → Some o ≡ told k → (k ≡ number_of o) ⊎ ((3 < k) × (number_of o ≡ 3))
told_some k First h = inl (grind (arith, nat_tests))
told_some k Second h = inl (grind (arith, nat_tests))
told_some k Both h = elim (cases_lt 3 k) [ inl l ↦ inr (l, refl) | inr l ↦ inl (grind (arith, nat_tests)) ]

module _ (k : ℕ) (o : Mark) (is : Some o ≡ told k) where
  pub told_there : k ≡ 0 → ⊥
  told_there z = elim (told_some k o is) [ inl q ↦ number_some o (sym q ∙ z) | inr q ↦ omega (arith, q.0) ]

  pub told_alone : one_sided (number_of o) ≡ one_sided k
  told_alone = elim (told_some k o is) [ inl q ↦ ap one_sided (sym q) | inr q ↦ grind (arith, nat_tests) ]

  pub told_joined : (m : Mark) → join (number_of o) (number_of m) ≡ join k (number_of m)
  told_joined m = elim (told_some k o is) [
    | inl q ↦ ap (λ n. join n (number_of m)) (sym q)
    | inr q ↦ let a = number_small m in grind (arith, nat_tests)
  ]

  pub told_marked : (other : ℕ) → other < 3 → Marked other k ↔ Marked other (number_of o)
  told_marked other low = elim (told_some k o is) [
    | inl q ↦ (subst (Marked other) q, subst (Marked other) (sym q))
    | inr q ↦ (
      (λ h. ((λ z. omega (arith, q.1)), (λ z. omega (arith, q.1)))),
      (λ h. ((λ z. omega (arith, q.0)), (λ z. omega (arith, q.0)))),
    )
  ]

  pub told_written : {w out : List ℕ} {s : Counters} {e : ℕ} {v new : List ℕ} {r : Counters} → Written w out s e (number_of o) v new r → Written w out s e k v new r
  told_written wr = elim (told_some k o is) [
    | inl q ↦ record { first = λ z. wr.first (sym q ∙ z); second = λ z. wr.second (sym q ∙ z); neither = λ a b. wr.neither (λ z. a (q ∙ z)) (λ z. b (q ∙ z)) }
    | inr q ↦ record {
      first = λ z. absurd (omega (arith, q.0));
      second = λ z. absurd (omega (arith, q.0));
      neither = λ a b. wr.neither (λ z. omega (arith, q.1)) (λ z. omega (arith, q.1));
    }
  ]

  pub told_noted : {P : ℕ → Type 0} {w : List ℕ} {s : Counters} {v : List ℕ} {r : Counters} → Noted P (number_of o) w s v r → Noted P k w s v r
  told_noted nt = record {
    listed = nt.listed;
    room = nt.room;
    found = nt.found;
    grows = nt.grows;
    moved = nt.moved;
    spread = record {
      keeps = nt.spread.keeps;
      takes = λ other x low p h. nt.spread.takes other x low p ((told_marked other low).0 h);
      from = λ other x low h. elim (nt.spread.from other x low h) [ inl g ↦ inl g | inr g ↦ inr (g.0, (told_marked other low).1 g.1) ];
      others = nt.spread.others;
    };
    queued = nt.queued;
    kept = nt.kept;
  }

-- what marking an event leaves, by what its calls answer
module _ (s : Search) (e : ℕ) (m : Mark) (in' : e < s.counters.room) (q : (bound : ℕ) × (e < bound) × QueueHeld s bound) where
  pub noted_besides : (o n : Mark) (t x y : ℕ) → Some o ≡ told (mark_held s e) → number_of n ≡ join (number_of o) (number_of m) → t ≡ number_of n → x ≡ one_sided (number_of n) → y ≡ one_sided (number_of o) → Noted (λ z. z ≡ e) (number_of m) s.work.now s.counters (set s.work.now (3 * s.counters.room + e) t) (again s.counters ((s.counters.pending + x) - y))
  noted_besides o n t x y is joined put new old =
      let k = mark_held s e in
      remarked s.work.now s.counters e (number_of m) q.0 s.listed in' (number_some m) q.1 q.2 t x y (told_there k o is) (put ∙ joined ∙ told_joined k o is m) (new ∙ ap one_sided (sym put)) (old ∙ told_alone k o is)

  pub share_in : (o : Mark) (x y : ℕ) → Some o ≡ told (mark_held s e) → y ≡ one_sided (number_of o) → y ≤ s.counters.pending + x
  share_in o x y is old =
      omega (arith, old, told_alone (mark_held s e) o is, share s.work.now s.counters s.listed q.0 q.2 e q.1)

  pub left_room : None ≡ told (mark_held s e) → s.counters.seen < s.counters.room
  left_room is = room_left s.work.now s.counters e s.listed in' (told_none (mark_held s e) is)

  pub noted_first : (t x : ℕ) (v : List ℕ) (b : Bool) → None ≡ told (mark_held s e) → t ≡ number_of m → x ≡ one_sided (number_of m) → length v ≡ length (put s.work.now s.counters e t) → b ≡ ltb s.counters.queued (length (put s.work.now s.counters e t)) → (b ≡ true → Pushed (λ c d. ltb d c) (put s.work.now s.counters e t) s.counters.queued e v) → Noted (λ z. z ≡ e) (number_of m) s.work.now s.counters v (more s.counters (s.counters.pending + x))
  noted_first t x v b is put' alone level fits pushed =
      let w = s.work.now in
      let at = s.counters in
      let free = lt-ltb at.queued (length (put w at e t)) (omega (arith, put_length w at e t, s.listed.size, s.listed.within, left_room is)) in
      marked_first w at e (number_of m) q.0 s.listed in' (number_some m) q.1 q.2 v x (told_none (marks w at e) is) (level ∙ ap (λ n. length (put w at e n)) put') alone
      (subst (λ n. Pushed (λ c d. ltb d c) (put w at e n) at.queued e v) put' (pushed (fits ∙ free)))

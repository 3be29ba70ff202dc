-- What marking one event leaves, whether it had a mark or not.
use Rattle.std.proofs.Common.{◌≡◌, ℕ, ◌+◌, ◌-◌, ◌*◌, ◌<◌, ◌≤◌, cond, not, ◌&&◌, eqb, ltb, List, [], ◌∷◌, ◌++◌, length, get_or, take, set, sum_by, sym, refl, ap, ◌∙◌, subst, arith}
use Rattle.std.proofs.lemmas.List.{get_or-set_same, get_or-set_other, take-set-le, length-set}
use Rattle.std.proofs.lemmas.List.Sums.{sum_by_push}
use Rattle.std.proofs.lemmas.List.Sorted.{sum_by-IsPermutation}
use Rattle.std.proofs.lemmas.Bool.{eq-eqb}
use Rattle.std.proofs.lemmas.Grind.{common_steps}
use Rattle.queue.specs.Heaps.{Pushed}
use Rattle.versions.specs.declared.counters.Counters.{Counters}
use Rattle.versions.specs.Marks.{one_sided, join}
use Rattle.versions.specs.Searches.{marks, copies, open_in, Listed, Queued, Noted}
use Rattle.versions.proofs.Joins.{join_some, joined_own, joined_other, joined_some, spread_one}
use Rattle.versions.proofs.Cells.{mark_changed, mark_new}
use Rattle.versions.proofs.Counts.{marked_same, marked_more, marked_lt, change_none, change_one, once_more}
use Rattle.versions.proofs.Queues.{at_behind, seen_le, once_in, once_out, heaped_same, share}

abbrev pub again : Counters → ℕ → Counters
again s p = record { room = s.room; seen = s.seen; queued = s.queued; pending = p; first = s.first; second = s.second }

abbrev pub more : Counters → ℕ → Counters
more s p = record { room = s.room; seen = s.seen + 1; queued = s.queued + 1; pending = p; first = s.first; second = s.second }

-- an event without a mark leaves room for one more
pub room_left : (w : List ℕ) (s : Counters) (e : ℕ) → Listed w s → e < s.room → marks w s e ≡ 0 → s.seen < s.room
room_left w s e l in' none = omega (arith, l.seen, marked_lt (marks w s) s.room e in' none)

-- the count of what is pending, where one mark changes
pub recounted : (w : List ℕ) (s : Counters) (e m old t x y bound : ℕ) → Listed w s → e < bound → Queued w s bound → old ≡ marks w s e → t ≡ join old m → x ≡ one_sided t → y ≡ one_sided old → (y ≤ s.pending + x) × ((s.pending + x) - y + one_sided (marks w s e) ≡ s.pending + one_sided (join (marks w s e) m))
recounted w s e m old t x y bound l low q o j a b =
    let le = share w s l bound q e low in
    let f : one_sided old ≡ one_sided (marks w s e) = ap one_sided o in
    let g : one_sided t ≡ one_sided (join (marks w s e) m) = ap one_sided (j ∙ ap (λ z. join z m) o) in
    (omega arith, omega arith)

module _ (w : List ℕ) (s : Counters) (e m p : ℕ) (l : Listed w s) (in' : e < s.room) (nz : m ≡ 0 → ⊥) where
  -- it had a mark
  module _ (some : marks w s e ≡ 0 → ⊥) (is : p + one_sided (marks w s e) ≡ s.pending + one_sided (join (marks w s e) m)) where
    abbrev changed : List ℕ
    changed = set w (3 * s.room + e) (join (marks w s e) m)

    marks_then : (x : ℕ) → marks changed (again s p) x ≡ cond (eqb x e) (join (marks w s e) m) (marks w s x)
    marks_then =
        mark_changed w changed s.room s.seen e (join (marks w s e) m) (seen_le w s l) some
        (get_or-set_same w (3 * s.room + e) (join (marks w s e) m) 0 (omega (arith, l.size)))
        (λ k d. get_or-set_other w (3 * s.room + e) k (join (marks w s e) m) 0 d)

    front : take s.queued changed ≡ take s.queued w
    front = take-set-le s.queued w (3 * s.room + e) _ (omega (arith, l.within, seen_le w s l))

    pub noted_again : Noted (λ x. x ≡ e) m w s changed (again s p)
    noted_again = record {
      listed = record {
        size = omega (arith, l.size, length-set w (3 * s.room + e) (join (marks w s e) m));
        small = l.small;
        seen = l.seen ∙ sym (marked_same (marks w s) (marks changed (again s p)) s.room (λ x b. ap (λ y. cond y 0 1) (joined_some e m (marks w s) (marks changed (again s p)) nz marks_then some x)));
        within = l.within;
      };
      room = refl;
      found = (refl, refl);
      grows = omega arith;
      moved = omega arith;
      spread = spread_one e m (marks w s) (marks changed (again s p)) nz marks_then;
      queued = λ bound low q. record {
        heaped = heaped_same w changed s.queued (λ k d b. get_or-set_other w (3 * s.room + e) k _ d (λ z. omega (arith, l.within, seen_le w s l))) q.heaped;
        once = λ x. ap (copies x) front ∙ q.once x ∙ ap (λ y. cond (not y && ltb x bound) 1 0) (sym (joined_some e m (marks w s) (marks changed (again s p)) nz marks_then some x));
        pending =
            let one = once_in w s l bound q e (low e refl) some in
            let all = change_one (λ y. one_sided (marks w s y)) (λ y. one_sided (marks changed (again s p) y)) e (λ x n. ap one_sided (joined_other e m (marks w s) (marks changed (again s p)) nz marks_then x n)) (take s.queued w) one in
            omega (arith, q.pending, ap one_sided (joined_own e m (marks w s) (marks changed (again s p)) nz marks_then), ap (open_in (marks changed (again s p))) front);
      };
      kept = λ k a b. get_or-set_other w (3 * s.room + e) k _ 0 (λ z. omega arith);
    }

  -- it had none
  module _ (none : marks w s e ≡ 0) (v : List ℕ) (level : length v ≡ length w) (is : p ≡ s.pending + one_sided (join (marks w s e) m)) where
    abbrev pub written : List ℕ
    written = set (set (set w (3 * s.room + e) (join (marks w s e) m)) (s.room + e) s.seen) (2 * s.room + s.seen) e

    seen_lt : s.seen < s.room
    seen_lt = room_left w s e l in' none

    cell_mark : get_or written (3 * s.room + e) 0 ≡ join (marks w s e) m
    cell_mark = let low = seen_lt in let size = l.size in grind (arith, common_steps)

    cell_place : get_or written (s.room + e) 0 ≡ s.seen
    cell_place = let low = seen_lt in let size = l.size in grind (arith, common_steps)

    cell_back : get_or written (2 * s.room + s.seen) 0 ≡ e
    cell_back = let low = seen_lt in let size = l.size in grind (arith, common_steps)

    cell_other : (k d : ℕ) → (k ≡ 3 * s.room + e → ⊥) → (k ≡ s.room + e → ⊥) → (k ≡ 2 * s.room + s.seen → ⊥) → get_or written k d ≡ get_or w k d
    cell_other k d x y z = grind (arith, common_steps)

    front_then : take s.queued written ≡ take s.queued w
    front_then = let small = l.within in let low = seen_lt in grind (arith, common_steps)

    module _ (pushed : Pushed (λ a b. ltb b a) written s.queued e v) where
      behind : (k : ℕ) → s.queued + 1 ≤ k → get_or v k 0 ≡ get_or written k 0
      behind k b = at_behind written v (s.queued + 1) k pushed.behind b

      marks_new : (x : ℕ) → marks v (more s p) x ≡ cond (eqb x e) (join (marks w s e) m) (marks w s x)
      marks_new =
          let small = l.within in
          let low = seen_lt in
          mark_new w v s.room s.seen e (join (marks w s e) m) in' low
          (behind (3 * s.room + e) (omega arith) ∙ cell_mark)
          (behind (s.room + e) (omega arith) ∙ cell_place)
          (behind (2 * s.room + s.seen) (omega arith) ∙ cell_back)
          (λ k b x y z. behind k (omega arith) ∙ cell_other k 0 x y z)

      some_then : marks v (more s p) e ≡ 0 → ⊥
      some_then z = join_some (marks w s e) m nz (sym (joined_own e m (marks w s) (marks v (more s p)) nz marks_new) ∙ z)

      sum_then : (f : ℕ → ℕ) → sum_by f (take (s.queued + 1) v) ≡ sum_by f (take s.queued w) + f e
      sum_then f =
          sum_by-IsPermutation f (take s.queued written ++ e ∷ []) (take (s.queued + 1) v) pushed.elements
          ∙ sum_by_push f (take s.queued written) e
          ∙ ap (λ xs. sum_by f xs + f e) front_then

      once_then : (bound : ℕ) → e < bound → Queued w s bound → (x : ℕ) → copies x (take (s.queued + 1) v) ≡ cond (not (eqb (marks v (more s p) x) 0) && ltb x bound) 1 0
      once_then bound low q x =
          once_more (copies x (take s.queued w)) (copies x (take (s.queued + 1) v)) x e (marks w s x) (marks v (more s p) x) bound
          (sum_then (λ y. cond (eqb y x) 1 0)) (q.once x) (λ r. ap (marks w s) r ∙ none) (λ r z. some_then (ap (marks v (more s p)) (sym r) ∙ z))
          (joined_other e m (marks w s) (marks v (more s p)) nz marks_new x) low

      pub noted_more : Noted (λ x. x ≡ e) m w s v (more s p)
      noted_more = record {
        listed = record {
          size = omega (arith, l.size, level);
          small = l.small;
          seen = ap (λ y. y + 1) l.seen ∙ sym (marked_more (marks w s) (marks v (more s p)) s.room e in' none some_then (joined_other e m (marks w s) (marks v (more s p)) nz marks_new));
          within = omega (arith, l.within);
        };
        room = refl;
        found = (refl, refl);
        grows = omega arith;
        moved = omega arith;
        spread = spread_one e m (marks w s) (marks v (more s p)) nz marks_new;
        queued = λ bound low q. record {
          heaped = pushed.ordered (heaped_same w written s.queued (λ k d b. cell_other k d (λ z. omega (arith, l.within, seen_lt)) (λ z. omega (arith, l.within, seen_lt)) (λ z. omega (arith, l.within, seen_lt))) q.heaped);
          once = once_then bound (low e refl) q;
          pending =
              let zero = once_out w s l bound q e none in
              let a = sum_then (λ y. one_sided (marks v (more s p) y)) in
              let b = change_none (λ y. one_sided (marks w s y)) (λ y. one_sided (marks v (more s p) y)) e (λ x n. ap one_sided (joined_other e m (marks w s) (marks v (more s p)) nz marks_new x n)) (take s.queued w) zero in
              omega (arith, q.pending, ap one_sided (joined_own e m (marks w s) (marks v (more s p)) nz marks_new), is);
        };
        kept = λ k a b. behind k a ∙ cell_other k 0 (λ z. omega arith) (λ z. omega arith) (λ z. omega arith);
      }

-- the writes that mark an event m which had no mark, before it is queued
abbrev pub put : List ℕ → Counters → ℕ → ℕ → List ℕ
put w s e m = set (set (set w (3 * s.room + e) m) (s.room + e) s.seen) (2 * s.room + s.seen) e

pub put_length : (w : List ℕ) (s : Counters) (e m : ℕ) → length (put w s e m) ≡ length w
put_length w s e m = simp length-set

-- what the calls leave, by the numbers that they write
module _ (w : List ℕ) (s : Counters) (e m bound : ℕ) (l : Listed w s) (in' : e < s.room) (nz : m ≡ 0 → ⊥) (low : e < bound) (q : Queued w s bound) where
  -- the share of the old mark is in the count
  pub share_in : (x y : ℕ) → y ≡ one_sided (marks w s e) → y ≤ s.pending + x
  share_in x y is = omega (arith, is, share w s l bound q e low)

  pub remarked : (t x y : ℕ) → (marks w s e ≡ 0 → ⊥) → t ≡ join (marks w s e) m → x ≡ one_sided t → y ≡ one_sided (marks w s e) → Noted (λ z. z ≡ e) m w s (set w (3 * s.room + e) t) (again s ((s.pending + x) - y))
  remarked t x y some is alone old =
      let le = share_in x y old in
      let sided : x ≡ one_sided (join (marks w s e) m) = alone ∙ ap one_sided is in
      subst (λ n. Noted (λ z. z ≡ e) m w s (set w (3 * s.room + e) n) (again s ((s.pending + x) - y))) (sym is) (noted_again w s e m ((s.pending + x) - y) l in' nz some (omega arith))

  pub marked_first : (v : List ℕ) (x : ℕ) → marks w s e ≡ 0 → length v ≡ length (put w s e m) → x ≡ one_sided m → Pushed (λ a b. ltb b a) (put w s e m) s.queued e v → Noted (λ z. z ≡ e) m w s v (more s (s.pending + x))
  marked_first v x none level alone pushed =
      let is : m ≡ join (marks w s e) m = sym (rw (eq-eqb (marks w s e) 0 none)) in
      noted_more w s e m (s.pending + x) l in' nz none v (level ∙ put_length w s e m) (omega (arith, alone, ap one_sided is))
      (subst (λ n. Pushed (λ a b. ltb b a) (put w s e n) s.queued e v) is pushed)

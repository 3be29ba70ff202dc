-- One step of the search: the latest event is taken, written down, and its parents are marked.
use Rattle.std.proofs.Common.{◌≡◌, ℕ, ◌+◌, ◌-◌, ◌<◌, ◌≤◌, cond, not, ◌&&◌, eqb, ltb, List, Some, length, get_or, take, drop, set, sym, refl, ap, ◌∙◌, subst, inl, inr, arith}
use Rattle.std.proofs.lemmas.List.{get_or-set_same, get_or-set_other, take-set-le, length-set, drop-set-lt}
use Rattle.std.proofs.lemmas.Bool.{cases_eq, cases_lt}
use Rattle.events.specs.Parts.{StoredEvent}
use Rattle.events.specs.WellFormed.{WellFormed}
use Rattle.versions.specs.declared.counters.Counters.{Counters}
use Rattle.versions.specs.declared.search.Search.{Search}
use Rattle.versions.specs.declared.marks.Mark.{Mark}
use Rattle.versions.specs.Versions.{Parent, parent, Enumerates}
use Rattle.versions.specs.Marks.{Marked, one_sided, told}
use Rattle.versions.specs.Searches.{marks, copies, open_in, Listed, Queued, Taken, Written, Noted, Knows, Stage, Stepped}
use Rattle.versions.specs.Held.{NotedBy, StageOf, TakenBy, WrittenBy, mark_held}
use Rattle.versions.proofs.Reached.{parent_less, enumerates_same}
use Rattle.versions.proofs.Cells.{mark_kept}
use Rattle.versions.proofs.Counts.{marked_same}
use Rattle.versions.proofs.Queues.{seen_le, heaped_same}
use Rattle.versions.proofs.Taken.{sum_same}
use Rattle.versions.proofs.Told.{told_written, told_noted}
use Rattle.versions.proofs.Found.{found_more, found_same, found_moved}

abbrev pub more_first : Counters → Counters
more_first s = record { room = s.room; seen = s.seen; queued = s.queued; pending = s.pending; first = s.first + 1; second = s.second }

abbrev pub more_second : Counters → Counters
more_second s = record { room = s.room; seen = s.seen; queued = s.queued; pending = s.pending; first = s.first; second = s.second + 1 }

-- what stands when the event is written down, and its parents are yet to be marked
pub record Between (es : List StoredEvent) (w out : List ℕ) (s : Counters) (e : ℕ) (v new : List ℕ) (r : Counters) : Type 0 where
  pub listed : Listed v r
  pub queued : Queued v r e
  pub same : (x : ℕ) → marks v r x ≡ marks w s x
  pub room : r.room ≡ s.room
  pub fewer : (r.seen ≡ s.seen) × (r.queued + 1 ≡ s.queued)
  pub firsts : Enumerates r.first (λ i. get_or new i 0) (λ x. (marks w s x ≡ 1) × (e ≤ x))
  pub seconds : Enumerates r.second (λ i. get_or v (r.room - 1 - i) 0) (λ x. (marks w s x ≡ 2) × (e ≤ x))
  pub few : r.first + r.second + e ≤ length es
  pub apart : r.queued + r.first + r.second ≤ r.seen
  pub first : s.first ≤ r.first
  pub kept : drop r.first new ≡ drop r.first out

module _ (es : List StoredEvent) (first second w out : List ℕ) (s : Counters) (bound e m : ℕ) (v : List ℕ) (t : Counters) (st : Stage es first second w out s bound) (long : length es ≤ length out) (tk : Taken w s v t e m) where
  low : e < bound
  low = (tk.queued bound st.queued).0

  gap : (x : ℕ) → e < x → x < bound → marks w s x ≡ 0
  gap = (tk.queued bound st.queued).2

  no_gap : (k x : ℕ) → (k ≡ 0 → ⊥) → e < x → x < bound → marks w s x ≡ k → ⊥
  no_gap k x nz a b q = nz (sym q ∙ gap x a b)

  -- the numbers found before stand where they stood
  back : (i : ℕ) → i < s.second → get_or v (t.room - 1 - i) 0 ≡ get_or w (s.room - 1 - i) 0
  back i b =
      ap (λ r. get_or v (r - 1 - i) 0) tk.fields.0
      ∙ tk.kept (s.room - 1 - i) (omega (arith, st.apart, seen_le w s st.listed))

  -- what was found before is all that was found of a kind that the event is not of
  firsts_same : (m ≡ 1 → ⊥) → Enumerates t.first (λ i. get_or out i 0) (λ x. (marks w s x ≡ 1) × (e ≤ x))
  firsts_same not =
      subst (λ n. Enumerates n (λ i. get_or out i 0) (λ x. (marks w s x ≡ 1) × (e ≤ x))) (sym tk.fields.3)
      (found_same (λ x. marks w s x ≡ 1) s.first e bound (λ i. get_or out i 0) (λ i. get_or out i 0) low (λ x. no_gap 1 x (λ z. omega arith)) (λ i b. refl) st.firsts
      (λ z. not (tk.mark.0 ∙ z)))

  seconds_same : (m ≡ 2 → ⊥) → Enumerates t.second (λ i. get_or v (t.room - 1 - i) 0) (λ x. (marks w s x ≡ 2) × (e ≤ x))
  seconds_same not =
      subst (λ n. Enumerates n (λ i. get_or v (t.room - 1 - i) 0) (λ x. (marks w s x ≡ 2) × (e ≤ x))) (sym tk.fields.4)
      (found_same (λ x. marks w s x ≡ 2) s.second e bound (λ i. get_or w (s.room - 1 - i) 0) (λ i. get_or v (t.room - 1 - i) 0) low (λ x. no_gap 2 x (λ z. omega arith)) back st.seconds
      (λ z. not (tk.mark.0 ∙ z)))

  pub between_first : m ≡ 1 → Between es w out s e v (set out t.first e) (more_first t)
  between_first is =
      let f = tk.fields in
      let l = tk.listed in
      let q = (tk.queued bound st.queued).1 in
      record {
        listed = record { size = l.size; small = l.small; seen = l.seen; within = l.within };
        queued = record { heaped = q.heaped; once = q.once; pending = q.pending };
        same = tk.marks_same;
        room = f.0;
        fewer = (f.1, f.2);
        firsts =
            subst (λ n. Enumerates (n + 1) (λ i. get_or (set out n e) i 0) (λ x. (marks w s x ≡ 1) × (e ≤ x))) (sym f.3)
            (found_more (λ x. marks w s x ≡ 1) s.first e bound (λ i. get_or out i 0) (λ i. get_or (set out s.first e) i 0) low (λ x. no_gap 1 x (λ z. omega arith))
            (λ i b. get_or-set_other out s.first i e 0 (λ z. omega arith)) st.firsts
            (get_or-set_same out s.first e 0 (omega (arith, st.few, low))) (sym tk.mark.0 ∙ is));
        seconds = seconds_same (λ z. omega arith);
        few = omega (arith, st.few, low, f.3, f.4);
        apart = omega (arith, st.apart, f.1, f.2, f.3, f.4);
        first = omega (arith, f.3);
        kept = drop-set-lt (t.first + 1) out t.first e (omega arith);
      }

  pub between_neither : (m ≡ 1 → ⊥) → (m ≡ 2 → ⊥) → Between es w out s e v out t
  between_neither a b =
      let f = tk.fields in
      record {
        listed = tk.listed;
        queued = (tk.queued bound st.queued).1;
        same = tk.marks_same;
        room = f.0;
        fewer = (f.1, f.2);
        firsts = firsts_same a;
        seconds = seconds_same b;
        few = omega (arith, st.few, low, f.3, f.4);
        apart = omega (arith, st.apart, f.1, f.2, f.3, f.4);
        first = omega (arith, f.3);
        kept = refl;
      }

  module _ (is : m ≡ 2) where
    abbrev wrote : List ℕ
    wrote = set v (t.room - 1 - t.second) e

    -- the cell is behind the queue, and in its area
    spot : (t.queued ≤ t.room - 1 - t.second) × (t.room - 1 - t.second < t.room) × (t.second < t.room)
    spot =
        let f = tk.fields in
        let a = seen_le w s st.listed in
        let b = st.apart in
        (omega arith, omega arith, omega arith)

    marks_kept : (x : ℕ) → marks wrote (more_second t) x ≡ marks v t x
    marks_kept x = mark_kept v wrote t.room t.seen x (λ k b. get_or-set_other v (t.room - 1 - t.second) k e 0 (λ z. omega (arith, spot.1)))

    pub between_second : Between es w out s e wrote out (more_second t)
    between_second =
        let f = tk.fields in
        let l = tk.listed in
        let q = (tk.queued bound st.queued).1 in
        let here = spot in
        let front : take t.queued wrote ≡ take t.queued v = take-set-le t.queued v (t.room - 1 - t.second) e here.0 in
        record {
          listed = record {
            size = omega (arith, l.size, length-set v (t.room - 1 - t.second) e);
            small = l.small;
            seen = l.seen ∙ sym (marked_same (marks v t) (marks wrote (more_second t)) t.room (λ x b. ap (λ y. cond (eqb y 0) 0 1) (marks_kept x)));
            within = l.within;
          };
          queued = record {
            heaped = heaped_same v wrote t.queued (λ k d b. get_or-set_other v (t.room - 1 - t.second) k e d (λ z. omega arith)) q.heaped;
            once = λ x. ap (copies x) front ∙ q.once x ∙ ap (λ y. cond (not (eqb y 0) && ltb x e) 1 0) (sym (marks_kept x));
            pending =
                q.pending
                ∙ sym (sum_same (λ y. one_sided (marks v t y)) (λ y. one_sided (marks wrote (more_second t) y)) (λ x. ap one_sided (marks_kept x)) (take t.queued v))
                ∙ ap (open_in (marks wrote (more_second t))) (sym front);
          };
          same = λ x. marks_kept x ∙ tk.marks_same x;
          room = f.0;
          fewer = (f.1, f.2);
          firsts = firsts_same (λ z. omega arith);
          seconds =
              subst (λ n. Enumerates (n + 1) (λ i. get_or wrote (t.room - 1 - i) 0) (λ x. (marks w s x ≡ 2) × (e ≤ x))) (sym f.4)
              (found_more (λ x. marks w s x ≡ 2) s.second e bound (λ i. get_or w (s.room - 1 - i) 0) (λ i. get_or wrote (t.room - 1 - i) 0) low (λ x. no_gap 2 x (λ z. omega arith))
              (λ i b. get_or-set_other v (t.room - 1 - t.second) (t.room - 1 - i) e 0 (λ z. omega (arith, f.4, here.2)) ∙ back i b) st.seconds
              (ap (λ n. get_or wrote (t.room - 1 - n) 0) (sym f.4) ∙ get_or-set_same v (t.room - 1 - t.second) e 0 (omega (arith, here.1, l.size))) (sym tk.mark.0 ∙ is));
          few = omega (arith, st.few, low, f.3, f.4);
          apart = omega (arith, st.apart, f.1, f.2, f.3, f.4);
          first = omega (arith, f.3);
          kept = refl;
        }

  pub between : (u new : List ℕ) (r : Counters) → Written v out t e m u new r → Between es w out s e u new r
  between u new r wr = elim (cases_eq m 1) [
    | inl q ↦
        let h = wr.first q in
        subst (λ (z : List ℕ). Between es w out s e z new r) (sym h.0)
        (subst (λ (z : List ℕ). Between es w out s e v z r) (sym h.1)
        (subst (λ (z : Counters). Between es w out s e v (set out t.first e) z) (sym h.2) (between_first q)))
    | inr a ↦ elim (cases_eq m 2) [
      | inl q ↦
          let h = wr.second q in
          subst (λ (z : List ℕ). Between es w out s e z new r) (sym h.0)
          (subst (λ (z : List ℕ). Between es w out s e (set v (t.room - 1 - t.second) e) z r) (sym h.1)
          (subst (λ (z : Counters). Between es w out s e (set v (t.room - 1 - t.second) e) out z) (sym h.2) (between_second q)))
      | inr b ↦
          let h = wr.neither a b in
          subst (λ (z : List ℕ). Between es w out s e z new r) (sym h.0)
          (subst (λ (z : List ℕ). Between es w out s e v z r) (sym h.1)
          (subst (λ (z : Counters). Between es w out s e v out z) (sym h.2) (between_neither a b)))
    ]
  ]

  module _ (fit : WellFormed es) (u new : List ℕ) (r : Counters) (bt : Between es w out s e u new r) (x₃ : List ℕ) (s₃ : Counters) (nt : Noted (Parent es e) m u r x₃ s₃) where
    -- the marks from the event up are as they were
    above : (x : ℕ) → e ≤ x → marks x₃ s₃ x ≡ marks w s x
    above x up = nt.spread.others x (λ p. omega (arith, parent_less es fit e x p)) ∙ bt.same x

    knows : (heads : List ℕ) (other : ℕ) → other < 3 → Knows es heads other (marks w s) bound → Knows es heads other (marks x₃ s₃) e
    knows heads other small k = record {
      sound = λ x h. elim (nt.spread.from other x small h) [
        | inl a ↦ k.sound x (subst (Marked other) (bt.same x) a)
        | inr a ↦ parent (k.sound e (subst (Marked other) tk.mark.0 a.1)) a.0
      ];
      starts = λ x h. nt.spread.keeps other x small (subst (Marked other) (sym (bt.same x)) (k.starts x h));
      closed = λ y x up h p.
          let was = subst (Marked other) (above y up) h in
          elim (cases_eq y e) [
            | inl q ↦
                nt.spread.takes other x small (subst (λ z. Parent es z x) q p)
                (subst (Marked other) (ap (marks w s) q ∙ sym tk.mark.0) was)
            | inr d ↦ elim (cases_lt y bound) [
              | inl b ↦ absurd (was.0 (gap y (omega arith) b))
              | inr b ↦ nt.spread.keeps other x small (subst (Marked other) (sym (bt.same x)) (k.closed y x b was p))
            ]
          ];
    }

    kinds : (k x : ℕ) → ((marks w s x ≡ k) × (e ≤ x) → (marks x₃ s₃ x ≡ k) × (e ≤ x)) × ((marks x₃ s₃ x ≡ k) × (e ≤ x) → (marks w s x ≡ k) × (e ≤ x))
    kinds k x = ((λ h. (above x h.1 ∙ h.0, h.1)), (λ h. (sym (above x h.1) ∙ h.0, h.1)))

    pub staged : Stage es first second x₃ new s₃ e
    staged =
        let f = nt.found in
        let g = nt.room in
        let a = seen_le x₃ s₃ nt.listed in
        let mv = nt.moved in
        let ap' = bt.apart in
        record {
          listed = nt.listed;
          queued = nt.queued e (λ x p. parent_less es fit e x p) bt.queued;
          held = omega (arith, st.held, bt.room);
          of_first = knows first 2 (omega arith) st.of_first;
          of_second = knows second 1 (omega arith) st.of_second;
          firsts = subst (λ n. Enumerates n (λ i. get_or new i 0) (λ x. (marks x₃ s₃ x ≡ 1) × (e ≤ x))) (sym f.0) (enumerates_same (kinds 1) bt.firsts);
          seconds =
              subst (λ n. Enumerates n (λ i. get_or x₃ (s₃.room - 1 - i) 0) (λ x. (marks x₃ s₃ x ≡ 2) × (e ≤ x))) (sym f.1)
              (enumerates_same (kinds 2) (found_moved r.second (λ i. get_or u (r.room - 1 - i) 0) (λ i. get_or x₃ (s₃.room - 1 - i) 0) (λ i b. ap (λ n. get_or x₃ (n - 1 - i) 0) g ∙ nt.kept (r.room - 1 - i) (omega arith) (omega arith)) bt.seconds));
          few = omega (arith, bt.few);
          apart = omega arith;
        }

    pub stepped : Stepped s out s₃ new
    stepped = record {
      room = nt.room ∙ bt.room;
      fewer = omega (arith, nt.moved, bt.fewer.0, bt.fewer.1);
      first = omega (arith, nt.found.0, bt.first);
      kept = subst (λ n. drop n new ≡ drop n out) (sym nt.found.0) bt.kept;
    }

-- the three calls of a step: the search before them, and after each
module _ (es : List StoredEvent) (s t u : Search) (out new : List ℕ) (e : ℕ) (m : Mark) (long : length es ≤ length out) (is : told (mark_held s e) ≡ Some m) (tk : TakenBy e s t) (wr : WrittenBy e m t out u new) (first second : List ℕ) (bound : ℕ) (st : StageOf es first second s out bound) where
  pub placed : Between es s.work.now out s.counters e u.work.now new u.counters
  placed = between es first second s.work.now out s.counters bound e (mark_held s e) t.work.now t.counters st long tk u.work.now new u.counters (told_written (mark_held s e) m (sym is) wr)

  module _ (fit : WellFormed es) (n : Search) (nt : NotedBy (Parent es e) m u n) where
    pub next_stage : StageOf es first second n new e
    next_stage = staged es first second s.work.now out s.counters bound e (mark_held s e) t.work.now t.counters st long tk fit u.work.now new u.counters placed n.work.now n.counters (told_noted (mark_held s e) m (sym is) nt)

    pub one_less : Stepped s.counters out n.counters new
    one_less = stepped es first second s.work.now out s.counters bound e (mark_held s e) t.work.now t.counters st long tk fit u.work.now new u.counters placed n.work.now n.counters (told_noted (mark_held s e) m (sym is) nt)

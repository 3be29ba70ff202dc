-- An event is written: what waited at it is in hand. Where nothing is in the queue, all are written.
use Rattle.std.proofs.Common.{◌≡◌, ℕ, zero, suc, ◌+◌, ◌*◌, ◌<◌, ◌≤◌, Bool, true, cond, eqb, List, [], ◌∷◌, length, get_or, take, Some, sym, refl, ap, ◌∙◌, subst, inl, inr, append-nil, arith}
use Rattle.std.specs.List.{AllByRecursion, slice_get}
use Rattle.std.proofs.lemmas.List.{length-take-le, get_or-take}
use Rattle.std.proofs.lemmas.Bool.{cases_eq, cases_lt, eq-eqb, ne_eqb, cond-true, cond-false}
use Rattle.std.proofs.lemmas.Option.{slice_get_within}
use Rattle.events.specs.declared.name.Name.{Name}
use Rattle.events.specs.Parts.{NamedEvent, StoredEvent}
use Rattle.events.specs.WellFormed.{WellFormed}
use Rattle.fugue.specs.Names.{same, has}
use Rattle.fugue.specs.Logs.{log_of}
use Rattle.fugue.specs.Archive.{ArchiveOrder}
use Rattle.fugue.proofs.Lists.{all_members}
use Rattle.stores.specs.Questions.{name_at}
use Rattle.stores.specs.Together.{some_is}
use Rattle.stores.proofs.Asked.{parent_below, same_number}
use Rattle.archive.specs.Archived.{in_order, Archived}
use Rattle.archive.specs.Times.{times_named, times_numbered}
use Rattle.archive.specs.Parts.{number_of, first_of, behind_of, Open, Done, ReadyAt, Chain}
use Rattle.archive.specs.Waiting.{Waiting}
use Rattle.archive.proofs.Counting.{one_name, one_number, times_has, fewer_numbers}
use Rattle.archive.proofs.Stored.{name_of}
use Rattle.archive.proofs.Placing.{chain_kept}
use Rattle.archive.proofs.Lines.{up_from, length_up, up_within, up_outside}
use Rattle.archive.proofs.Cells.{neither}
use Rattle.archive.proofs.Logs.{from_log}
use Rattle.archive.proofs.Writing.{Written, written, num_other, done_same, done_more, written_few}

module _ (before : Name → Name → Bool) (es : List StoredEvent) (wf : WellFormed es) (room : ℕ) (inside : length es ≤ room) where
  module _ (cells : List ℕ) (room4 : 4 * room ≤ length cells) (names : List Name) (k e : ℕ) (d : StoredEvent) (w : Written before es room cells names k) (h : slice_get es e ≡ Some d) (open' : Open es room cells e) (less : k < length es)
      (queue queue' : List Name) (lines : ℕ → List ℕ) (was : Waiting es room cells queue lines []) (ready : ReadyAt es room cells e) (fewer : (y : Name) → times_named queue y ≡ times_named queue' y + cond (same d.name y) 1 0) where
    abbrev after : List ℕ
    after = written before es wf room inside cells room4 names k e d w h open' less

    name : name_at es e ≡ Some d.name
    name = rw h refl

    below : e < length es
    below = slice_get_within es e d h

    first_kept : (p : ℕ) → first_of room after p ≡ first_of room cells p
    first_kept p = let b = below in neither cells k (room + e) e k (2 * room + p) (λ z. omega (arith, z, less, inside)) (λ z. omega (arith, z, inside, b))

    behind_kept : (v : ℕ) → behind_of room after v ≡ behind_of room cells v
    behind_kept v = let b = below in neither cells k (room + e) e k (3 * room + v) (λ z. omega (arith, z, less, inside)) (λ z. omega (arith, z, inside, b))

    line_kept : (v : ℕ) (ws : List ℕ) → Chain room cells v ws → Chain room after v ws
    line_kept v ws c = chain_kept room cells after v ws (λ u i. behind_kept u) c

    -- what is not written then was not written before, and is another event
    not_now : (v : ℕ) → Open es room after v → v ≡ e → ⊥
    not_now v o z =
        let s = done_same before es wf room inside cells room4 names k e d w h open' less in
        let q = subst (λ u. Open es room after u) z o in
        omega (arith, s, q)

    was_open : (v : ℕ) → Open es room after v → Open es room cells v
    was_open v o = let n = num_other before es wf room inside cells room4 names k e d w h open' less v (not_now v o) in omega (arith, n, o)

    still_open : (v : ℕ) → (v ≡ e → ⊥) → Open es room cells v → Open es room after v
    still_open v i o = let n = num_other before es wf room inside cells room4 names k e d w h open' less v i in omega (arith, n, o)

    -- what waits is not ready
    no_wait : (p v : ℕ) → 1 ≤ times_numbered (lines p) v → ReadyAt es room cells v → ⊥
    no_wait p v i r = let a = was.waits p v i in let b = r.1 a.4.0 p a.4.1 in let o = a.1 in omega (arith, b, o)

    waits_other : (p v : ℕ) → 1 ≤ times_numbered (lines p) v → v ≡ e → ⊥
    waits_other p v i z = no_wait p v i (subst (λ u. ReadyAt es room cells u) (sym z) ready)

    abbrev others : ℕ → List ℕ
    others q = cond (eqb q e) [] (lines q)

    others_here : (q : ℕ) → q ≡ e → others q ≡ []
    others_here q i = cond-true (eqb q e) [] (lines q) (eq-eqb q e i)

    others_other : (q : ℕ) → (q ≡ e → ⊥) → others q ≡ lines q
    others_other q i = cond-false (eqb q e) [] (lines q) (ne_eqb q e i)

    count_here : (q v : ℕ) → q ≡ e → times_numbered (others q) v ≡ 0
    count_here q v i = ap (λ l. times_numbered l v) (others_here q i)

    count_other : (q v : ℕ) → (q ≡ e → ⊥) → times_numbered (others q) v ≡ times_numbered (lines q) v
    count_other q v i = ap (λ l. times_numbered l v) (others_other q i)

    count_most : (q v : ℕ) → times_numbered (others q) v ≤ times_numbered (lines q) v
    count_most q v = elim (cases_eq q e) [
      | inl i ↦ let c = count_here q v i in omega (arith, c)
      | inr i ↦ let c = count_other q v i in omega (arith, c)
    ]

    -- a line that has an event is another's
    other_line : (q v : ℕ) → 1 ≤ times_numbered (others q) v → q ≡ e → ⊥
    other_line q v i z = let c = count_here q v z in omega (arith, c, i)

    pub freed_line : Chain room after (first_of room after e) (lines e)
    freed_line = subst (λ v. Chain room after v (lines e)) (sym (first_kept e)) (line_kept (first_of room cells e) (lines e) (was.links e below open'))

    -- the name is another's
    other_name : (v : ℕ) (y : Name) → name_at es v ≡ Some y → (v ≡ e → ⊥) → ◌≡◌ {A = ℕ} (cond (same d.name y) 1 0) 0
    other_name v y n i = elim (one_name d.name y) [
      | inl r ↦ absurd (i (same_number es wf v e y n (name ∙ ap Some r.0)))
      | inr r ↦ r.1
    ]

    pub freed : Waiting es room after queue' others (lines e)
    freed = record {
      once = λ y. let a = was.once y in let f = fewer y in omega (arith, a, f);
      ready = λ y i.
          let f = fewer y in
          let r = was.ready y (omega (arith, f, i)) in
          let ne : r.0 ≡ e → ⊥ = λ z.
          let q : d.name ≡ y = some_is (sym name ∙ ap (name_at es) (sym z) ∙ r.1) in
          let a = was.once y in
          elim (one_name d.name y) [
            | inl s ↦ let c = s.1 in omega (arith, a, c, f, i)
            | inr s ↦ s.0 q
          ] in
          (r.0, r.1, (still_open r.0 ne r.2.0, λ j p q. done_more before es wf room inside cells room4 names k e d w h open' less p (r.2.1 j p q)));
      links = λ p l o.
          subst (λ ws. Chain room after (first_of room after p) ws) (sym (others_other p (not_now p o)))
          (subst (λ v. Chain room after v (lines p)) (sym (first_kept p)) (line_kept (first_of room cells p) (lines p) (was.links p l (was_open p o))));
      waits = λ p v i.
          let m = count_most p v in
          let j : 1 ≤ times_numbered (lines p) v = omega (arith, m, i) in
          let a = was.waits p v j in
          (a.0, still_open p (other_line p v i) a.1, a.2, still_open v (waits_other p v j) a.3, a.4);
      apart = λ p q v ne. let a = was.apart p q v ne in let m = count_most p v in let n = count_most q v in omega (arith, a, m, n);
      single = λ p v. elim (cases_eq p e) [
        | inl i ↦ let c = count_here p v i in let s = was.single e v in omega (arith, c, s)
        | inr i ↦ let c = count_other p v i in let a = was.apart e p v (λ z. i (sym z)) in omega (arith, c, a)
      ];
      hands = λ v i.
          let a = was.waits e v i in (
            a.2,
            still_open v (waits_other e v i) a.3,
            λ y n. elim (cases_lt 0 (times_named queue' y)) [
              | inl l ↦
                  let f = fewer y in
                  let r = was.ready y (omega (arith, f, l)) in
                  absurd (no_wait e v i (subst (λ u. ReadyAt es room cells u) (same_number es wf r.0 v y r.1 n) r.2))
              | inr l ↦ omega (arith, l)
            ],
          );
      cover = λ v y n o. elim (was.cover v y n (was_open v o)) [
        | inl i ↦ inl (let c = other_name v y n (not_now v o) in let f = fewer y in omega (arith, c, f, i))
        | inr i ↦ elim i [
          | inl j ↦ absurd (omega (arith, j))
          | inr j ↦ elim (cases_eq j.0 e) [
            | inl z ↦ inr (inl (subst (λ p. 1 ≤ times_numbered (lines p) v) z j.1))
            | inr z ↦ inr (inr (j.0, (let c = count_other j.0 v z in let t = j.1 in omega (arith, c, t))))
          ]
        ]
      ];
    }

  -- ---- the end

  all_done : (cells : List ℕ) (lines : ℕ → List ℕ) → Waiting es room cells [] lines [] → (m v : ℕ) → v < m → v < length es → Done es room cells v
  all_done cells lines was zero v l b = absurd (omega arith)
  all_done cells lines was (suc m) v l b = elim (cases_lt (number_of room cells v) (length es)) [
    | inl i ↦ i
    | inr i ↦ let x = name_of es v b in elim (was.cover v x.0 x.1 i) [
      | inl j ↦ absurd (omega (arith, j))
      | inr j ↦ elim j [
        | inl z ↦ absurd (omega (arith, z))
        | inr z ↦
            let a = was.waits z.0 v z.1 in
            let p = parent_below es wf v a.4.0 z.0 a.4.1 in
            let ih = all_done cells lines was m z.0 (omega (arith, p, l)) a.0 in
            let o = a.1 in
            absurd (omega (arith, ih, o))
      ]
    ]
  ]

  module _ (cells : List ℕ) (room4 : 4 * room ≤ length cells) (names : List Name) (k : ℕ) (w : Written before es room cells names k) (lines : ℕ → List ℕ) (was : Waiting es room cells [] lines []) where
    done : (v : ℕ) → v < length es → Done es room cells v
    done v l = all_done cells lines was (suc v) v (omega arith) l

    pub all_written : k ≡ length es
    all_written =
        let few = written_few before es wf room inside cells names k w in
        let size = length-take-le k cells (omega (arith, few, inside, room4)) in
        let f = fewer_numbers (up_from 0 (length es)) (take k cells) (λ v. elim (cases_lt v (length es)) [
          | inl l ↦
              let r = w.numbers v l (done v l) in
              let b = r.0 in
              let t = at_place (take k cells) (number_of room cells v) (omega (arith, size, b)) in
              let q : get_or (take k cells) (number_of room cells v) 0 ≡ v = get_or-take k cells (number_of room cells v) 0 b ∙ r.1 in
              let t' : 1 ≤ times_numbered (take k cells) v = subst (λ u. 1 ≤ times_numbered (take k cells) u) q t in
              let u = up_within 0 (length es) v (omega arith) (omega (arith, l)) in
              omega (arith, t', u)
          | inr l ↦ let u = up_outside 0 (length es) v (omega (arith, l)) in omega (arith, u)
        ]) in
        let n = length_up 0 (length es) in
        omega (arith, few, size, f, n)
      where
        at_place : (xs : List ℕ) (i : ℕ) → i < length xs → 1 ≤ times_numbered xs (get_or xs i 0)
        at_place [] i l = absurd (omega arith)
        at_place (x ∷ xs) zero l = elim (one_number x x) [ inl r ↦ let q = r.1 in omega (arith, q) | inr r ↦ absurd (r.0 refl) ]
        at_place (x ∷ xs) (suc i) l = let ih = at_place xs i (omega arith) in omega (arith, ih)

    pub archived : Archived before es room cells
    archived =
        let n = all_written in
        let log : AllByRecursion (λ (d : NamedEvent). has names d.name ≡ true) (log_of es) = all_members _ (log_of es) (λ d i.
        let r = from_log es d i in
        let x : name_at es r.0 ≡ Some d.name = rw r.2 (ap (λ (z : NamedEvent). Some z.name) (sym r.3)) in
        times_has names d.name (w.every r.0 d.name x (done r.0 (slice_get_within es r.0 r.1 r.2)))) in
        record {
          order = subst (λ m. ArchiveOrder before (log_of es) (in_order es (take m cells))) n (subst (λ l. ArchiveOrder before (log_of es) l) (append-nil (in_order es (take k cells))) (w.path [] log));
          places = λ i l. w.places i (omega (arith, n, l));
          numbers = λ v l. let d = done v l in (d, (w.numbers v l d).1);
        }

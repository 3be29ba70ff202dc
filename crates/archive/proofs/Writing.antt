-- The events written so far, and what one more makes of them.
use Rattle.std.proofs.Common.{◌≡◌, ℕ, ◌+◌, ◌*◌, ◌<◌, ◌≤◌, Bool, false, not, List, [], ◌∷◌, ◌++◌, length, get_or, take, set, Some, sym, refl, ap, ◌∙◌, subst, inl, inr, append_assoc, arith}
use Rattle.std.specs.List.{slice_get}
use Rattle.std.proofs.lemmas.List.{take-take, take_more_set, take-set-le, flat_map_more}
use Rattle.std.proofs.lemmas.Bool.{both_ways, cases_Bool, cases_eq, cases_lt}
use Rattle.std.proofs.lemmas.Option.{slice_get_within}
use Rattle.events.specs.declared.name.Name.{Name}
use Rattle.events.specs.Parts.{NamedEvent, StoredEvent}
use Rattle.events.specs.WellFormed.{WellFormed}
use Rattle.fugue.specs.Names.{has}
use Rattle.fugue.specs.Logs.{named_in, log_of}
use Rattle.fugue.specs.Archive.{Ready, Next, WrittenFrom}
use Rattle.fugue.proofs.Lists.{all_member, all_members}
use Rattle.stores.specs.Questions.{name_at}
use Rattle.stores.proofs.Asked.{name_below, same_number}
use Rattle.archive.specs.Archived.{listed, in_order}
use Rattle.archive.specs.Times.{times_named}
use Rattle.archive.specs.Parts.{number_of, Open, Done, ReadyAt}
use Rattle.archive.specs.Waiting.{Waiting}
use Rattle.archive.proofs.Counting.{one_name, has_times, times_has}
use Rattle.archive.proofs.Stored.{names_few, name_of}
use Rattle.archive.proofs.Placing.{parent_event}
use Rattle.archive.proofs.Cells.{neither, first_write, second_write, front_cell}
use Rattle.archive.proofs.Logs.{held_log, from_log, parent_number, parent_name}

-- `names` are the names of the written events, the newest first, and k is their count
pub record Written (before : Name → Name → Bool) (es : List StoredEvent) (room : ℕ) (cells : List ℕ) (names : List Name) (k : ℕ) : Type 0 where
  pub count : length names ≡ k
  pub once : (x : Name) → times_named names x ≤ 1
  pub only : (x : Name) → 1 ≤ times_named names x → (w : ℕ) × (name_at es w ≡ Some x) × Done es room cells w
  pub every : (w : ℕ) (x : Name) → name_at es w ≡ Some x → Done es room cells w → 1 ≤ times_named names x
  pub places : (i : ℕ) → i < k → (get_or cells i 0 < length es) × (number_of room cells (get_or cells i 0) ≡ i)
  pub numbers : (e : ℕ) → e < length es → Done es room cells e → (number_of room cells e < k) × (get_or cells (number_of room cells e) 0 ≡ e)
  pub path : (rest : List NamedEvent) → WrittenFrom before names (log_of es) rest → WrittenFrom before [] (log_of es) (in_order es (take k cells) ++ rest)

module _ (before : Name → Name → Bool) (es : List StoredEvent) (wf : WellFormed es) (room : ℕ) (inside : length es ≤ room) where
  pub written_few : (cells : List ℕ) (names : List Name) (k : ℕ) → Written before es room cells names k → k ≤ length es
  written_few cells names k w =
      let f = names_few es names w.once (λ x i. let r = w.only x i in (r.0, r.1)) in
      let c = w.count in
      omega (arith, f, c)

  -- one more can be written while one is not
  pub written_less : (cells : List ℕ) (names : List Name) (k e : ℕ) (x : Name) → Written before es room cells names k → name_at es e ≡ Some x → Open es room cells e → k < length es
  written_less cells names k e x w n o =
      let absent : 1 ≤ times_named names x → ⊥ = λ i.
      let r = w.only x i in
      let q = same_number es wf r.0 e x r.1 n in
      let d : Done es room cells e = subst (λ v. Done es room cells v) q r.2 in
      omega (arith, d, o) in
      let f = names_few es (x ∷ names) (λ y. elim (one_name x y) [
        | inl r ↦ elim (cases_lt 0 (times_named names y)) [
          | inl i ↦ absurd (absent (subst (λ z. 1 ≤ times_named names z) (sym r.0) (omega (arith, i))))
          | inr i ↦ let k = r.1 in omega (arith, k, i)
        ]
        | inr r ↦ let k = r.1 in let b = w.once y in omega (arith, k, b)
      ]) (λ y i. elim (one_name x y) [
        | inl r ↦ (e, n ∙ ap Some r.0)
        | inr r ↦ let b = w.only y (let k = r.1 in omega (arith, k, i)) in (b.0, b.1)
      ]) in
      let c = w.count in
      omega (arith, f, c)

  -- nothing is written
  pub none_written : (cells : List ℕ) → ((e : ℕ) → e < length es → Open es room cells e) → Written before es room cells [] 0
  none_written cells h = record {
    count = refl;
    once = λ x. omega arith;
    only = λ x i. absurd (omega arith);
    every = λ w x n d. let o = h w (name_below es w x n) in absurd (omega (arith, o, d));
    places = λ i l. absurd (omega arith);
    numbers = λ e l d. let o = h e l in absurd (omega (arith, o, d));
    path = λ rest v. v;
  }

  -- what is written stands in the first two parts of the work list
  pub written_kept : (cells cells' : List ℕ) (names : List Name) (k : ℕ) → take (2 * room) cells' ≡ take (2 * room) cells → Written before es room cells names k → Written before es room cells' names k
  written_kept cells cells' names k q w =
      let few = written_few cells names k w in
      let at : (i : ℕ) → i < 2 * room → get_or cells' i 0 ≡ get_or cells i 0 = λ i l. front_cell cells cells' (2 * room) i q l in
      let num : (e : ℕ) → e < length es → number_of room cells' e ≡ number_of room cells e = λ e l. at (room + e) (omega (arith, l, inside)) in
      let back : (e : ℕ) → e < length es → Done es room cells' e → Done es room cells e = λ e l d. let n = num e l in omega (arith, n, d) in
      let front : take k cells' ≡ take k cells = sym (take-take k (2 * room) cells' (omega (arith, few, inside))) ∙ ap (λ xs. take k xs) q ∙ take-take k (2 * room) cells (omega (arith, few, inside)) in
      record {
        count = w.count;
        once = w.once;
        only = λ x i. let r = w.only x i in (r.0, r.1, let n = num r.0 (name_below es r.0 x r.1) in let d = r.2 in omega (arith, n, d));
        every = λ v x n d. w.every v x n (back v (name_below es v x n) d);
        places = λ i l.
            let r = w.places i l in
            let c = at i (omega (arith, l, few, inside)) in
            (let b = r.0 in omega (arith, c, b), ap (λ v. number_of room cells' v) c ∙ num (get_or cells i 0) r.0 ∙ r.1);
        numbers = λ e l d.
            let r = w.numbers e l (back e l d) in
            let n = num e l in
            (let b = r.0 in omega (arith, n, b), ap (λ v. get_or cells' v 0) n ∙ at (number_of room cells e) (let b = r.0 in omega (arith, b, few, inside)) ∙ r.1);
        path = λ rest v. subst (λ ws. WrittenFrom before [] (log_of es) (in_order es ws ++ rest)) (sym front) (w.path rest v);
      }

  -- ---- ready by names and by numbers

  module _ (cells : List ℕ) (names : List Name) (k : ℕ) (w : Written before es room cells names k) where
    unwritten : (v : ℕ) (x : Name) → name_at es v ≡ Some x → Open es room cells v → has names x ≡ false
    unwritten v x n o = elim (cases_Bool (has names x)) [
      | inl h ↦
          let r = w.only x (has_times names x h) in
          let d = subst (λ u. Done es room cells u) (same_number es wf r.0 v x r.1 n) r.2 in
          absurd (omega (arith, d, o))
      | inr h ↦ h
    ]

    name_at_lem : (v : ℕ) (e : StoredEvent) → slice_get es v ≡ Some e → name_at es v ≡ Some e.name
    name_at_lem v e h = rw h refl

    ready_named : (v : ℕ) (e : StoredEvent) → slice_get es v ≡ Some e → ReadyAt es room cells v → Ready names (log_of es) (named_in es e)
    ready_named v e h r = record {
      held = held_log es v e h;
      unwritten = unwritten v e.name (name_at_lem v e h) r.0;
      after = all_members _ (named_in es e).parents (λ x i. let p = parent_number es v e h x i in times_has names x (w.every p.1 x p.3 (r.1 p.0 p.1 p.2)));
    }

    ready_numbered : (v : ℕ) (e : StoredEvent) → slice_get es v ≡ Some e → Ready names (log_of es) (named_in es e) → ReadyAt es room cells v
    ready_numbered v e h r = (
      elim (cases_lt (number_of room cells v) (length es)) [
        | inl d ↦ absurd (both_ways _ r.unwritten (times_has names e.name (w.every v e.name (name_at_lem v e h) d)))
        | inr o ↦ o
      ],
      λ k p q.
          let x = name_of es p (parent_event es wf room v k p q) in
          let b = w.only x.0 (has_times names x.0 (all_member _ (named_in es e).parents x.0 r.after (parent_name es v e h k p x.0 q x.1))) in
          subst (λ u. Done es room cells u) (same_number es wf b.0 p x.0 b.1 x.1) b.2,
    )

    -- the name that comes first in the queue is that of the next event
    pub next_named : ((a b : Name) → (a ≡ b → ⊥) → before a b ≡ not (before b a)) → (queue : List Name) (lines : ℕ → List ℕ) → Waiting es room cells queue lines []
        → (v : ℕ) (e : StoredEvent) → slice_get es v ≡ Some e → 1 ≤ times_named queue e.name → ((y : Name) → 1 ≤ times_named queue y → before y e.name ≡ false)
        → ReadyAt es room cells v × Next before names (log_of es) (named_in es e)
    next_named total queue lines was v e h i leads =
        let b = was.ready e.name i in
        let r = subst (λ u. ReadyAt es room cells u) (same_number es wf b.0 v e.name b.1 (name_at_lem v e h)) b.2 in (
          r,
          record {
            ready = ready_named v e h r;
            first = λ d m ne.
                let f = from_log es d m.held in
                let rd = ready_numbered f.0 f.1 f.2 (subst (λ z. Ready names (log_of es) z) f.3 m) in
                let nd : name_at es f.0 ≡ Some d.name = name_at_lem f.0 f.1 f.2 ∙ ap (λ z. Some z.name) (sym f.3) in
                let queued : 1 ≤ times_named queue d.name = elim (was.cover f.0 d.name nd rd.0) [
                  | inl j ↦ j
                  | inr j ↦ elim j [
                    | inl z ↦ absurd (omega (arith, z))
                    | inr z ↦
                        let a = was.waits z.0 f.0 z.1 in
                        let p = rd.1 a.4.0 z.0 a.4.1 in
                        let op = a.1 in
                        absurd (omega (arith, p, op))
                  ]
                ] in
                total e.name d.name (λ q. ne (sym q)) ∙ ap not (leads d.name queued);
          },
        )

  -- ---- one more

  module _ (cells : List ℕ) (room4 : 4 * room ≤ length cells) (names : List Name) (k e : ℕ) (d : StoredEvent) (w : Written before es room cells names k) (h : slice_get es e ≡ Some d) (open' : Open es room cells e) (less : k < length es) where
    abbrev pub written : List ℕ
    written = set (set cells k e) (room + e) k

    below : e < length es
    below = slice_get_within es e d h

    num_same : number_of room written e ≡ k
    num_same = second_write cells k (room + e) e k (room + e) refl (let b = below in omega (arith, b, inside, room4))

    pub num_other : (v : ℕ) → (v ≡ e → ⊥) → number_of room written v ≡ number_of room cells v
    num_other v n = neither cells k (room + e) e k (room + v) (λ z. omega (arith, z, less, inside)) (λ z. n (omega (arith, z)))

    place_same : get_or written k 0 ≡ e
    place_same = first_write cells k (room + e) e k k refl (λ z. omega (arith, z, less, inside)) (omega (arith, less, inside, room4))

    place_other : (i : ℕ) → i < k → get_or written i 0 ≡ get_or cells i 0
    place_other i l = neither cells k (room + e) e k i (λ z. omega (arith, z, l)) (λ z. omega (arith, z, l, less, inside))

    pub done_same : Done es room written e
    done_same = let q = num_same in omega (arith, q, less)

    pub done_more : (v : ℕ) → Done es room cells v → Done es room written v
    done_more v q = elim (cases_eq v e) [
      | inl i ↦ subst (λ u. Done es room written u) (sym i) done_same
      | inr i ↦ let n = num_other v i in omega (arith, n, q)
    ]

    done_less : (v : ℕ) → (v ≡ e → ⊥) → Done es room written v → Done es room cells v
    done_less v i q = let n = num_other v i in omega (arith, n, q)

    front_more : take (k + 1) written ≡ take k cells ++ e ∷ []
    front_more =
        take-set-le (k + 1) (set cells k e) (room + e) k (omega (arith, less, inside)) ∙ take_more_set cells k e (omega (arith, less, inside, room4))

    pub written_more : Next before names (log_of es) (named_in es d) → Written before es room written (d.name ∷ names) (k + 1)
    written_more next =
        let name : name_at es e ≡ Some d.name = rw h refl in
        let absent : times_named names d.name ≡ 0 = elim (cases_lt 0 (times_named names d.name)) [
          | inl i ↦ absurd (both_ways _ next.ready.unwritten (times_has names d.name (omega (arith, i))))
          | inr i ↦ omega (arith, i)
        ] in
        record {
          count = (let c = w.count in omega (arith, c));
          once = λ x. elim (one_name d.name x) [
            | inl r ↦ let q = r.1 in let a = subst (λ y. times_named names y ≡ 0) r.0 absent in omega (arith, q, a)
            | inr r ↦ let q = r.1 in let a = w.once x in omega (arith, q, a)
          ];
          only = λ x i. elim (one_name d.name x) [
            | inl r ↦ (e, name ∙ ap Some r.0, done_same)
            | inr r ↦ let b = w.only x (let q = r.1 in omega (arith, q, i)) in (b.0, b.1, done_more b.0 b.2)
          ];
          every = λ v x n q. elim (one_name d.name x) [
            | inl r ↦ let z = r.1 in omega (arith, z)
            | inr r ↦
                let ne : v ≡ e → ⊥ = λ z. r.0 (let s : Some d.name ≡ Some x = sym name ∙ ap (λ u. name_at es u) (sym z) ∙ n in cc) in
                let b = w.every v x n (done_less v ne q) in
                omega (arith, b)
          ];
          places = λ i l. elim (cases_lt i k) [
            | inl m ↦
                let r = w.places i m in
                let c = place_other i m in
                let ne : get_or cells i 0 ≡ e → ⊥ = λ z. let o : length es ≤ number_of room cells (get_or cells i 0) = subst (λ u. Open es room cells u) (sym z) open' in let n = r.1 in omega (arith, o, n, m, less) in
                (let b = r.0 in omega (arith, c, b), ap (λ v. number_of room written v) c ∙ num_other (get_or cells i 0) ne ∙ r.1)
            | inr m ↦
                let q : i ≡ k = omega (arith, l, m) in
                let c : get_or written i 0 ≡ e = ap (λ j. get_or written j 0) q ∙ place_same in
                (let b = below in omega (arith, c, b), ap (λ v. number_of room written v) c ∙ num_same ∙ sym q)
          ];
          numbers = λ v l q. elim (cases_eq v e) [
            | inl i ↦
                let n : number_of room written v ≡ k = ap (λ u. number_of room written u) i ∙ num_same in
                (omega (arith, n), ap (λ j. get_or written j 0) n ∙ place_same ∙ sym i)
            | inr i ↦
                let r = w.numbers v l (done_less v i q) in
                let n = num_other v i in
                (let b = r.0 in omega (arith, n, b), ap (λ j. get_or written j 0) n ∙ place_other (number_of room cells v) r.0 ∙ r.1)
          ];
          path = λ rest v.
              let one : listed es (slice_get es e) ≡ named_in es d ∷ [] = ap (listed es) h in
              let more : in_order es (take (k + 1) written) ≡ in_order es (take k cells) ++ (named_in es d ∷ []) =
              ap (in_order es) front_more ∙ sym (flat_map_more (λ i. listed es (slice_get es i)) [] (take k cells) e) ∙ ap (λ l. in_order es (take k cells) ++ l) one in
              subst (λ l. WrittenFrom before [] (log_of es) (l ++ rest)) (sym more)
              (subst (λ l. WrittenFrom before [] (log_of es) l) (sym (append_assoc (in_order es (take k cells)) (named_in es d ∷ []) rest)) (w.path (named_in es d ∷ rest) ((next, v))));
        }

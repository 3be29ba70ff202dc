-- Events numbered in archive order: parents below, the same events, and an admissible log.
use Rattle.std.proofs.Common.{◌≡◌, ℕ, zero, suc, ◌+◌, ◌<◌, ◌≤◌, Bool, true, false, cond, ◌⊎◌, List, [], ◌∷◌, ◌++◌, map, reverse, length, Some, filter, sym, refl, ap, ◌∙◌, subst, ap₂, inl, inr, append_assoc, arith}
use mathlib.Core.List.{reverse_aux}
use Rattle.std.specs.List.{flat_map, AllByRecursion, slice_get}
use Rattle.std.proofs.lemmas.Bool.{both_ways, cases_Bool, or_left, or_parts}
use Rattle.std.proofs.ByRecursion.{All-weaker}
use Rattle.std.specs.Option.{option_map}
use Rattle.std.proofs.lemmas.List.{length_push}
use Rattle.std.proofs.lemmas.Option.{slice_get-map}
use Rattle.events.specs.declared.name.Name.{Name}
use Rattle.events.specs.Parts.{NamedEvent, StoredEvent, SameEvent}
use Rattle.fugue.specs.Names.{◌∈◌, Rising, same, has, Ordered}
use Rattle.fugue.proofs.Lists.{all_member, all_members, nth_in, kept_member, member_kept, kept_like, kept_nothing, rises_kept, has_member, member_has}
use Rattle.fugue.specs.Logs.{NewestFirst, names, Distinct, name_at, named_in, log_of, numbers_from, numbered, Within, SameEvents}
use Rattle.fugue.specs.Archive.{Admits, Admissible, WrittenFrom, ArchiveOrder}
use Rattle.fugue.proofs.Names.{same_name, same_own, same_not, has_in, in_has}
use Rattle.fugue.proofs.Versions.{held, event_of_lem, parents_down, behind_forth}
use Rattle.fugue.proofs.SameEvents.{same_event, same_placement, placements_within}
use Rattle.fugue.proofs.Archived.{admissible_distinct, admissible_held, in_reverse, from_reverse, archive_once, archive_after, archive_members, archive_admissible}

-- numbers and names

name_at_lem : (pre xs : List Name) (x : Name) → name_at (pre ++ x ∷ xs) (length pre) ≡ x ∷ []
name_at_lem [] xs x = refl
name_at_lem (y ∷ pre) xs x = name_at_lem pre xs x

one_more : (pre : List Name) (x : Name) → length (pre ++ x ∷ []) ≡ suc (length pre)
one_more pre x = let l = length_push pre x in omega arith

names_of : (pre xs ps : List Name) → flat_map (name_at (pre ++ xs)) (numbers_from (length pre) xs ps) ≡ filter (has ps) xs
names_of pre [] ps = refl
names_of pre (x ∷ xs) ps = go (has ps x) (names_of (pre ++ x ∷ []) xs ps)
  where
    ns : ℕ → List ℕ
    ns k = numbers_from k xs ps

    go : (b : Bool) → flat_map (name_at ((pre ++ x ∷ []) ++ xs)) (ns (length (pre ++ x ∷ []))) ≡ filter (has ps) xs
        → flat_map (name_at (pre ++ x ∷ xs)) (cond b (length pre ∷ ns (suc (length pre))) (ns (suc (length pre)))) ≡ cond b (x ∷ filter (has ps) xs) (filter (has ps) xs)
    go b ih =
        let more : flat_map (name_at (pre ++ x ∷ xs)) (ns (suc (length pre))) ≡ filter (has ps) xs
        = sym (ap₂ (λ l k. flat_map (name_at l) (ns k)) (append_assoc pre (x ∷ []) xs) (one_more pre x)) ∙ ih in
        elim b as (λ c. flat_map (name_at (pre ++ x ∷ xs)) (cond c (length pre ∷ ns (suc (length pre))) (ns (suc (length pre)))) ≡ cond c (x ∷ filter (has ps) xs) (filter (has ps) xs)) [
          | true ↦ ap₂ ◌++◌ (name_at_lem pre xs x) more
          | false ↦ more
        ]

-- the names of a list at its places

nth_map : (es : List NamedEvent) (i : ℕ) (d : NamedEvent) → slice_get es i ≡ Some d → slice_get (names es) i ≡ Some d.name
nth_map es i d q = slice_get-map (λ e. e.name) es i ∙ ap (option_map (λ e. e.name)) q

abbrev Apart : List Name → Type 0
Apart xs = Rising (λ x y. x ≡ y → ⊥) xs

one_place : (xs : List Name) → Apart xs → (i j : ℕ) (x : Name) → slice_get xs i ≡ Some x → slice_get xs j ≡ Some x → i ≡ j
one_place [] a i j x p q = absurd (grind arith)
one_place (y ∷ xs) a zero zero x p q = refl
one_place (y ∷ xs) a zero (suc j) x p q = absurd (all_member _ xs x a.0 (nth_in xs j x q) (cc))
one_place (y ∷ xs) a (suc i) zero x p q = absurd (all_member _ xs x a.0 (nth_in xs i x p) (cc))
one_place (y ∷ xs) a (suc i) (suc j) x p q = ap suc (one_place xs a.1 i j x p q)

-- each number stands for a name of the list that is among ps
number_of : (k : ℕ) (xs ps : List Name) (j : ℕ) → j ∈ numbers_from k xs ps → (i : ℕ) × (x : Name) × (j ≡ k + i) × (slice_get xs i ≡ Some x) × (has ps x ≡ true)
number_of k [] ps j m = elim m [ ]
number_of k (x ∷ xs) ps j m = go (has ps x) refl m (number_of (suc k) xs ps j)
  where
    later : (i : ℕ) × (y : Name) × (j ≡ suc k + i) × (slice_get xs i ≡ Some y) × (has ps y ≡ true)
        → (i : ℕ) × (y : Name) × (j ≡ k + i) × (slice_get (x ∷ xs) i ≡ Some y) × (has ps y ≡ true)
    later r = (suc r.0, r.1, (let q = r.2 in omega (arith, q)), r.3, r.4)

    go : (b : Bool) → has ps x ≡ b → j ∈ cond b (k ∷ numbers_from (suc k) xs ps) (numbers_from (suc k) xs ps)
        → (j ∈ numbers_from (suc k) xs ps → (i : ℕ) × (y : Name) × (j ≡ suc k + i) × (slice_get xs i ≡ Some y) × (has ps y ≡ true))
        → (i : ℕ) × (y : Name) × (j ≡ k + i) × (slice_get (x ∷ xs) i ≡ Some y) × (has ps y ≡ true)
    go true q (inl e) ih = (0, x, omega (arith, e), refl, q)
    go true q (inr n) ih = later (ih n)
    go false q n ih = later (ih n)

numbers_above : (k : ℕ) (xs ps : List Name) → AllByRecursion (λ j. k ≤ j) (numbers_from k xs ps) × Rising (λ i j. i < j) (numbers_from k xs ps)
numbers_above k [] ps = (tt, tt)
numbers_above k (x ∷ xs) ps = go (has ps x) (numbers_above (suc k) xs ps)
  where
    go : (b : Bool) → AllByRecursion (λ j. suc k ≤ j) (numbers_from (suc k) xs ps) × Rising (λ i j. i < j) (numbers_from (suc k) xs ps)
        → AllByRecursion (λ j. k ≤ j) (cond b (k ∷ numbers_from (suc k) xs ps) (numbers_from (suc k) xs ps)) × Rising (λ i j. i < j) (cond b (k ∷ numbers_from (suc k) xs ps) (numbers_from (suc k) xs ps))
    go true r = ((omega arith, All-weaker _ _ (λ j h. omega arith) _ r.0), (r.0, r.1))
    go false r = (All-weaker _ _ (λ j h. omega arith) _ r.0, r.1)

-- the numbers of an event's parents are below its own
module _ (before : Name → Name → Bool) (log : NewestFirst) where
  -- a parent was written before
  earlier : (es : List NamedEvent) (acc : NewestFirst) → WrittenFrom before (names acc) log es → (i : ℕ) (d : NamedEvent) → slice_get es i ≡ Some d → (p : Name) → p ∈ d.parents
      → (p ∈ names acc) ⊎ ((j : ℕ) × (j < i) × (slice_get (names es) j ≡ Some p))
  earlier [] acc w i d q p k = absurd (grind arith)
  earlier (e ∷ es) acc w zero d q p k =
      let f : e ≡ d = cc in inl (has_in (names acc) p (all_member _ e.parents p w.0.ready.after (subst (λ z. p ∈ z.parents) (sym f) k)))
  earlier (e ∷ es) acc w (suc i) d q p k = elim (earlier es (e ∷ acc) w.1 i d q p k) [
    | inl m ↦ elim m [ inl f ↦ inr (0, omega arith, ap Some (sym f)) | inr n ↦ inl n ]
    | inr r ↦ inr (suc r.0, omega (arith, r.1), r.2)
  ]

  abbrev to_stored : List NamedEvent → NamedEvent → StoredEvent
  to_stored es e = record { name = e.name; deed = e.deed; parents = numbers_from 0 (names es) e.parents }

  nth_stored : (all es : List NamedEvent) (i : ℕ) (e : StoredEvent) → slice_get (map (to_stored all) es) i ≡ Some e → (d : NamedEvent) × (slice_get es i ≡ Some d) × (to_stored all d ≡ e)
  nth_stored all [] i e q = absurd (grind arith)
  nth_stored all (d ∷ es) zero e q = (d, refl, cc)
  nth_stored all (d ∷ es) (suc i) e q = nth_stored all es i e q

  pub parents_below_lem : (es : List NamedEvent) → Apart (names es) → ArchiveOrder before log es → (i : ℕ) (e : StoredEvent) → slice_get (numbered es) i ≡ Some e
      → AllByRecursion (λ p. p < i) e.parents × Rising (λ p q. p < q) e.parents
  parents_below_lem es a w i e q =
      let r = nth_stored es es i e q in
      let d = r.0 in
      subst (λ z. AllByRecursion (λ p. p < i) z.parents × Rising (λ p q. p < q) z.parents) r.2 (
        all_members _ (numbers_from 0 (names es) d.parents) (λ j m.
            let n = number_of 0 (names es) d.parents j m in
            elim (earlier es [] w i d r.1 n.1 (has_in d.parents n.1 n.4)) [
              | inl k ↦ elim k [ ]
              | inr k ↦ let f = one_place (names es) a n.0 k.0 n.1 n.3 k.2 in omega (arith, f, k.1, n.2)
            ]),
        (numbers_above 0 (names es) d.parents).1,
      )

-- an event with its parents in the order of a list of names
module _ (xs : List Name) where
  abbrev reorder : NamedEvent → NamedEvent
  reorder e = record { name = e.name; deed = e.deed; parents = filter (has e.parents) xs }

  reordered : (e : NamedEvent) → AllByRecursion (λ p. has xs p ≡ true) e.parents → SameEvent (reorder e) e
  reordered e a = record {
    name = refl;
    deed = refl;
    parents = record {
      forth = λ p h. has_member e.parents p (has_in e.parents p (member_kept (has e.parents) xs p (member_has (filter (has e.parents) xs) p h)).1);
      back = λ p h. let i = member_has e.parents p h in
          has_member (filter (has e.parents) xs) p (kept_member (has e.parents) xs p (in_has e.parents p i) (has_in xs p (all_member _ e.parents p a i)));
    };
  }

  -- there are no more of them than there were
  kept_one : (p : Name) (ps : List Name) (ys : List Name) → Apart ys → length (filter (has (p ∷ ps)) ys) ≤ suc (length (filter (has ps) ys))
  kept_one p ps [] a = omega arith
  kept_one p ps (y ∷ ys) a = elim (cases_Bool (same p y)) [
    | inl q ↦
        let like = kept_like (has (p ∷ ps)) (has ps) ys
        (All-weaker (λ z. y ≡ z → ⊥) (λ z. has (p ∷ ps) z ≡ has ps z) (λ z n. rw (same_not p z (λ e. n (sym (same_name p y q) ∙ e)))) ys a.0) in
        grind (arith, q, like)
    | inr q ↦ let ih = kept_one p ps ys a.1 in grind (arith, q, ih)
  ]

  kept_few : (ps ys : List Name) → Apart ys → length (filter (has ps) ys) ≤ length ps
  kept_few [] ys a = rw (kept_nothing (has []) ys (all_members _ ys (λ _ _. refl))) (omega arith)
  kept_few (p ∷ ps) ys a = let ih = kept_few ps ys a in let l = kept_one p ps ys a in omega (arith, ih, l)

  -- a log with its events' parents reordered
  names_reordered : (log : NewestFirst) → names (map reorder log) ≡ names log
  names_reordered [] = refl
  names_reordered (e ∷ log) = ap (λ l. e.name ∷ l) (names_reordered log)

  abbrev Known : NewestFirst → Type 0
  Known log = AllByRecursion (λ e. AllByRecursion (λ p. has xs p ≡ true) e.parents) log

  within_reordered : (log : NewestFirst) → Known log → Within (map reorder log) log
  within_reordered [] a e i = elim i [ ]
  within_reordered (d ∷ log) a e (inl q) = (d, inl refl, subst (λ z. SameEvent z d) (sym q) (reordered d a.0))
  within_reordered (d ∷ log) a e (inr i) = let r = within_reordered log a.1 e i in (r.0, inr r.1, r.2)

  reordered_within : (log : NewestFirst) → Known log → Within log (map reorder log)
  reordered_within [] a e i = elim i [ ]
  reordered_within (d ∷ log) a e (inl q) = (reorder d, inl refl, subst (λ z. SameEvent z (reorder d)) (sym q) (swapped (reordered d a.0)))
    where
      swapped : SameEvent (reorder d) d → SameEvent d (reorder d)
      swapped s = record { name = refl; deed = refl; parents = record { forth = s.parents.back; back = s.parents.forth } }
  reordered_within (d ∷ log) a e (inr i) = let r = reordered_within log a.1 e i in (r.0, inr r.1, r.2)

  module _ (before : Name → Name → Bool) (o : Ordered before) (apart : Apart xs) where
    admits_reordered : (log : NewestFirst) (e : NamedEvent) → Admissible before log → Known (e ∷ log) → Admissible before (map reorder log) → Admits before log e
        → Admits before (map reorder log) (reorder e)
    admits_reordered log e h a h' m =
        let s = reordered e a.0 in
        let w = within_reordered log a.1 in
        let u = admissible_distinct before log h in
        let k = admissible_held before log h in
        let u' = admissible_distinct before (map reorder log) h' in
        let k' = admissible_held before (map reorder log) h' in
        let old : (p : Name) → p ∈ filter (has e.parents) xs → p ∈ e.parents = λ p i. has_in e.parents p (member_kept (has e.parents) xs p i).1 in
        let ps : AllByRecursion (λ p. has (names (map reorder log)) p ≡ true) (filter (has e.parents) xs)
        = all_members _ _ (λ p i. rw (names_reordered log) (all_member _ e.parents p m.held (old p i))) in
        let same = same_placement before o log u k (map reorder log) log (reorder e) e
        (record {
          distinct = u';
          below = k';
          within = w;
          placed = placements_within before o log u k (map reorder log) u' k' w;
          known = λ x i _. all_member _ _ x ps i;
        })
        (record { distinct = u; below = k; within = λ d i. (d, i, same_event before d); placed = λ p i. i; known = λ x _ z. z }) s in
        record {
          fresh = rw (names_reordered log) m.fresh;
          held = ps;
          few = let l = kept_few e.parents xs apart in let f = m.few in omega (arith, l, f);
          once = rises_kept _ (has e.parents) xs apart;
          apart = λ p q i j b. m.apart p q (old p i) (old q j) (behind_forth (map reorder log) log w b);
          inside = λ z. m.inside (sym same ∙ z);
        }

    pub admissible_reordered : (log : NewestFirst) → Admissible before log → Known log → Admissible before (map reorder log)
    admissible_reordered [] h a = tt
    admissible_reordered (e ∷ log) h a =
        let ih = admissible_reordered log h.1 a.1 in (admits_reordered log e h.1 a ih h.0, ih)

-- the log of the numbered events

reversed : {X Y Z : Type 0} (f : X → Y) (g : Y → Z) (h : X → Z) → ((x : X) → g (f x) ≡ h x) → (xs acc : List X)
    → reverse_aux (map g (map f xs)) (map h acc) ≡ map h (reverse_aux xs acc)
reversed f g h e [] acc = refl
reversed f g h e (x ∷ xs) acc = ap (λ z. reverse_aux (map g (map f xs)) (z ∷ map h acc)) (e x) ∙ reversed f g h e xs (x ∷ acc)

names_stored : (ns : List Name) (es : List NamedEvent)
    → map (λ d. d.name) (map (λ e. let s : StoredEvent = record { name = e.name; deed = e.deed; parents = numbers_from 0 ns e.parents } in s) es) ≡ names es
names_stored ns [] = refl
names_stored ns (e ∷ es) = ap (λ l. e.name ∷ l) (names_stored ns es)

pub log_of_lem : (es : List NamedEvent) → log_of (numbered es) ≡ map (reorder (names es)) (reverse es)
log_of_lem es =
    reversed _ (named_in (numbered es)) (reorder (names es))
    (λ e. ap (λ ps. record { name = e.name; deed = e.deed; parents = ps })
    (ap (λ l. flat_map (name_at l) (numbers_from 0 (names es) e.parents)) (names_stored (names es) es) ∙ names_of [] (names es) e.parents)) es []

-- the facts about a numbered archive order

apart_names : (es : List NamedEvent) (acc : NewestFirst) → Distinct (reverse_aux es acc) → Apart (names es) × ((x : Name) → x ∈ names es → has (names acc) x ≡ false) × Distinct acc
apart_names [] acc u = (tt, (λ x i. elim i [ ]), u)
apart_names (e ∷ es) acc u =
    let r = apart_names es (e ∷ acc) u in (
      (all_members _ (names es) (λ x i q. both_ways _ (r.1 x i) (or_left (same e.name x) _ (rw q (same_own x)))), r.0),
      (λ x i. elim i [ inl q ↦ rw q r.2.0 | inr j ↦ (or_parts (same e.name x) _ (r.1 x j)).1 ]),
      r.2.1,
    )

module _ (before : Name → Name → Bool) (o : Ordered before) (log : NewestFirst) (u : Distinct log) (es : List NamedEvent) (v : ArchiveOrder before log es) where
  apart_here : Apart (names es)
  apart_here = (apart_names es [] (archive_once before log u es v)).0

  known_here : Known (names es) (reverse es)
  known_here =
      all_members _ (reverse es) (λ e i. all_members _ e.parents (λ p j.
      let r = event_of_lem (reverse es) p (parents_down (reverse es) (archive_after before log u es v) e i p j) in
      elim (from_reverse es [] r.0 r.1) [
        | inl k ↦ rw r.2 at (held es r.0 k)
        | inr k ↦ elim k [ ]
      ]))

  pub numbered_below : (i : ℕ) (e : StoredEvent) → slice_get (numbered es) i ≡ Some e → AllByRecursion (λ p. p < i) e.parents × Rising (λ p q. p < q) e.parents
  numbered_below = parents_below_lem before log es apart_here v

  pub numbered_same : SameEvents (log_of (numbered es)) log
  numbered_same = rw (log_of_lem es) (
    (λ e i. let r = within_reordered (names es) (reverse es) known_here e i in
        (r.0, elim (from_reverse es [] r.0 r.1) [ inl k ↦ (archive_members before log u es v r.0).0 k | inr k ↦ elim k [ ] ], r.2)),
    (λ e i. reordered_within (names es) (reverse es) known_here e (in_reverse es [] e (inl ((archive_members before log u es v e).1 i)))),
  )

  pub numbered_again : Admissible before log → Admissible before (log_of (numbered es))
  numbered_again a = rw (log_of_lem es) (admissible_reordered (names es) before o apart_here (reverse es) (archive_admissible before o log a es v) known_here)

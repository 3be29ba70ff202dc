-- Archive order exists, is one, and is an order in which the events could have come.
use Rattle.std.proofs.Common.{◌≡◌, ℕ, zero, suc, ◌<◌, ◌≤◌, Bool, true, false, not, ◌&&◌, ◌⊎◌, List, [], ◌∷◌, length, filter, sym, refl, ap, ◌∙◌, subst, ap₂, inl, inr, arith}
use Rattle.std.specs.List.{AllZip, AllByRecursion, each_same, list_all}
use Rattle.std.proofs.lemmas.List.Elements.{All-from_recursion, recursion_from_All}
use Rattle.std.proofs.lemmas.List.Sums.{AllPass-from_list_all, list_all-from_AllPass}
use Rattle.std.proofs.lemmas.Bool.{both_ways, cases_Bool, and_parts, and_from, or_left, not-true}
use Rattle.std.proofs.ByRecursion.{All-weaker}
use Rattle.events.specs.declared.name.Name.{Name}
use Rattle.events.specs.Parts.{NamedEvent, SameEvent}
use Rattle.fugue.specs.Names.{◌∈◌, same, has, Ordered}
use Rattle.fugue.proofs.Lists.{all_member, all_members, kept_member, member_kept, kept_fewer}
use Rattle.fugue.specs.Logs.{NewestFirst, names, Distinct, ParentsHeld, Within, SameEvents}
use Rattle.fugue.specs.Archive.{Ready, Next, WrittenFrom, ArchiveOrder}
use Rattle.fugue.proofs.Names.{same_name, same_own, order_cases}
use Rattle.fugue.proofs.Versions.{event_of_lem, one_event, same_back}
use Rattle.fugue.proofs.SameEvents.{same_event}

-- the events in archive order are held

written_held : (before : Name → Name → Bool) (log : NewestFirst) (written : List Name) (es : List NamedEvent) → WrittenFrom before written log es → AllByRecursion (λ e. e ∈ log) es
written_held before log written [] w = tt
written_held before log written (e ∷ es) w = (w.0.ready.held, written_held before log (e.name ∷ written) es w.1)

-- logs that hold the same events have the same archive order

module _ (before : Name → Name → Bool) (o : Ordered before) where
  ready_forth : (a b : NewestFirst) → Within a b → (written : List Name) (e : NamedEvent) → Ready written a e → (d : NamedEvent) × Ready written b d × SameEvent e d
  ready_forth a b w written e r =
      let d = w e r.held in (
        d.0,
        record {
          held = d.1;
          unwritten = rw (sym d.2.name) r.unwritten;
          after = all_members _ d.0.parents (λ p i. all_member _ e.parents p r.after (same_back d.2 p i));
        },
        d.2,
      )

  -- what is ready in one log is not before what is next in another that holds its events
  not_earlier : (a b : NewestFirst) → Within a b → (written : List Name) (d e : NamedEvent) → Ready written a d → Next before written b e → before d.name e.name ≡ true → d.name ≡ e.name
  not_earlier a b w written d e k n h =
      let r = ready_forth a b w written d k in
      elim (cases_Bool (same d.name e.name)) [
        | inl q ↦ same_name d.name e.name q
        | inr q ↦ absurd (both_ways _ (o.irreflexive d.name) (o.transitive d.name e.name d.name h
            (subst (λ z. before e.name z ≡ true) (sym r.2.name) (n.first r.0 r.1 (λ z. both_ways _ q (rw (r.2.name ∙ z) (same_own e.name)))))))
      ]

  -- the one that comes first comes first in both
  first_same : (a b : NewestFirst) → SameEvents a b → (written : List Name) (d e : NamedEvent) → Next before written a d → Next before written b e → d.name ≡ e.name
  first_same a b s written d e m n = elim (order_cases before o d.name e.name) [
    | inl h ↦ not_earlier a b s.0 written d e m.ready n h
    | inr h ↦ elim h [ inl q ↦ q | inr q ↦ sym (not_earlier b a s.1 written e d n.ready m q) ]
  ]

  all_written : (a b : NewestFirst) → Within b a → (written : List Name) → AllByRecursion (λ e. has written e.name ≡ true) a → (e : NamedEvent) → Ready written b e → ⊥
  all_written a b w written h e r =
      let d = w e r.held in both_ways _ r.unwritten (rw d.2.name (all_member _ a d.0 h d.1))

  same_names : (a b : NewestFirst) → SameEvents a b → (written : List Name) (es fs : List NamedEvent) → WrittenFrom before written a es → WrittenFrom before written b fs
      → names es ≡ names fs
  same_names a b s written [] [] v w = refl
  same_names a b s written [] (f ∷ fs) v w = absurd (all_written a b s.1 written v f w.0.ready)
  same_names a b s written (e ∷ es) [] v w = absurd (all_written b a s.0 written w e v.0.ready)
  same_names a b s written (e ∷ es) (f ∷ fs) v w =
      let q = first_same a b s written e f v.0 w.0 in
      ap₂ ◌∷◌ q (same_names a b s (e.name ∷ written) es fs v.1 (subst (λ x. WrittenFrom before (x ∷ written) b fs) (sym q) w.1))

-- lists of events by their names
by_names : (R : NamedEvent → NamedEvent → Type 0) (a b : NewestFirst) → ((d e : NamedEvent) → d ∈ a → e ∈ b → d.name ≡ e.name → R d e)
    → (es fs : List NamedEvent) → AllByRecursion (λ e. e ∈ a) es → AllByRecursion (λ e. e ∈ b) fs → names es ≡ names fs → AllZip R es fs
by_names R a b h [] [] i j q = tt
by_names R a b h [] (f ∷ fs) i j q = absurd (grind arith)
by_names R a b h (e ∷ es) [] i j q = absurd (grind arith)
by_names R a b h (e ∷ es) (f ∷ fs) i j q =
    let x : e.name ≡ f.name = cc in
    let y : names es ≡ names fs = cc in
    (h e f i.0 j.0 x, by_names R a b h es fs i.1 j.1 y)

module _ (before : Name → Name → Bool) (o : Ordered before) where
  pub same_archive : (a b : NewestFirst) → Distinct b → SameEvents a b → (es fs : List NamedEvent) → ArchiveOrder before a es → ArchiveOrder before b fs → AllZip SameEvent es fs
  same_archive a b ub s es fs v w =
      by_names SameEvent a b
      (λ d e i j q. let r = s.0 d i in subst (SameEvent d) (one_event b ub r.0 e r.1 j (sym r.2.name ∙ q)) r.2)
      es fs (written_held before a [] es v) (written_held before b [] fs w) (same_names before o a b s [] es fs v w)

  pub one_archive : (log : NewestFirst) → Distinct log → (es fs : List NamedEvent) → ArchiveOrder before log es → ArchiveOrder before log fs → es ≡ fs
  one_archive log u es fs v w =
      let own : Within log log = λ d i. (d, i, same_event before d) in
      each_same fs es (by_names (λ d e. e ≡ d) log log (λ d e i j q. one_event log u e d j i (sym q)) fs es (written_held before log [] fs w) (written_held before log [] es v)
      (same_names before o log log (own, own) [] fs es w v))

-- there is a next event as long as one is unwritten

is_ready : List Name → NamedEvent → Bool
is_ready written e = not (has written e.name) && list_all (has written) e.parents

module _ (written : List Name) (log : NewestFirst) where
  ready : (e : NamedEvent) → e ∈ filter (is_ready written) log → Ready written log e
  unfolding is_ready
  ready e i =
      let r = member_kept (is_ready written) log e i in
      let q = and_parts (not (has written e.name)) (list_all (has written) e.parents) r.1 in
      record { held = r.0; unwritten = not-true (has written e.name) q.0; after = recursion_from_All _ e.parents (AllPass-from_list_all (has written) e.parents q.1) }

  from_ready : (e : NamedEvent) → Ready written log e → e ∈ filter (is_ready written) log
  unfolding is_ready
  from_ready e r = kept_member (is_ready written) log e (and_from _ _ (ap not r.unwritten) (list_all-from_AllPass (has written) e.parents (All-from_recursion _ e.parents r.after))) r.held

-- the oldest unwritten event is ready
some_ready : (log : NewestFirst) → ParentsHeld log → (written : List Name) → AllByRecursion (λ e. has written e.name ≡ true) log ⊎ ((e : NamedEvent) × Ready written log e)
some_ready [] k written = inl tt
some_ready (d ∷ older) k written = elim (some_ready older k.1 written) [
  | inl all ↦ elim (cases_Bool (has written d.name)) [
    | inl h ↦ inl (h, all)
    | inr h ↦ inr (
      d,
      record {
        held = inl refl;
        unwritten = h;
        after = All-weaker _ _ (λ p i. let r = event_of_lem older p i in rw r.2 at (all_member _ older r.0 all r.1)) d.parents k.0;
      },
    )
  ]
  | inr r ↦ inr (r.0, record { held = inr r.1.held; unwritten = r.1.unwritten; after = r.1.after })
]

module _ (before : Name → Name → Bool) (o : Ordered before) where
  abbrev Least : List NamedEvent → NamedEvent → Type 0
  Least es m = (m ∈ es) × ((d : NamedEvent) → d ∈ es → (d.name ≡ m.name → ⊥) → before m.name d.name ≡ true)

  least : (e : NamedEvent) (es : List NamedEvent) → (m : NamedEvent) × Least (e ∷ es) m
  least e [] = (e, (inl refl, λ d i n. elim i [ inl q ↦ absurd (n (ap (λ z. z.name) q)) | inr j ↦ elim j [ ] ]))
  least e (d ∷ es) = go (least d es)
    where
      -- e comes before the least of the others
      first : (m : NamedEvent) → Least (d ∷ es) m → before e.name m.name ≡ true → Least (e ∷ d ∷ es) e
      first m l h = (
        inl refl,
        λ k i n. elim i [
          | inl q ↦ absurd (n (ap (λ z. z.name) q))
          | inr j ↦ elim (cases_Bool (same k.name m.name)) [
            | inl q ↦ rw (same_name k.name m.name q) h
            | inr q ↦ o.transitive e.name m.name k.name h (l.1 k j (λ z. both_ways _ q (rw z (same_own m.name))))
          ]
        ],
      )

      -- or does not
      later : (m : NamedEvent) → Least (d ∷ es) m → ((e.name ≡ m.name → ⊥) → before m.name e.name ≡ true) → Least (e ∷ d ∷ es) m
      later m l h = (
        inr l.0,
        λ k i n. elim i [
          | inl q ↦ let z = ap (λ y. y.name) q in subst (λ y. before m.name y ≡ true) (sym z) (h (λ y. n (z ∙ y)))
          | inr j ↦ l.1 k j n
        ],
      )

      go : (m : NamedEvent) × Least (d ∷ es) m → (m : NamedEvent) × Least (e ∷ d ∷ es) m
      go r = elim (order_cases before o e.name r.0.name) [
        | inl h ↦ (e, first r.0 r.1 h)
        | inr h ↦ elim h [
          | inl q ↦ (r.0, later r.0 r.1 (λ n. absurd (n q)))
          | inr q ↦ (r.0, later r.0 r.1 (λ _. q))
        ]
      ]

  some_next : (log : NewestFirst) → ParentsHeld log → (written : List Name) → AllByRecursion (λ e. has written e.name ≡ true) log ⊎ ((e : NamedEvent) × Next before written log e)
  some_next log k written = elim (some_ready log k written) [
    | inl all ↦ inl all
    | inr r ↦ inr (pick r.0 (filter (is_ready written) log) refl (from_ready written log r.0 r.1))
  ]
    where
      pick : (d : NamedEvent) (es : List NamedEvent) → filter (is_ready written) log ≡ es → d ∈ es → (e : NamedEvent) × Next before written log e
      pick d [] q i = elim i [ ]
      pick d (e ∷ es) q i =
          let r = least e es in (
            r.0,
            record {
              ready = ready written log r.0 (rw q r.1.0);
              first = λ c h n. r.1.1 c (rw q at (from_ready written log c h)) n;
            },
          )

-- how many events are unwritten

unwritten : List Name → NewestFirst → ℕ
unwritten written log = length (filter (λ e. not (has written e.name)) log)

still : (written : List Name) (x : Name) (d : NamedEvent) → not (has (x ∷ written) d.name) ≡ true → not (has written d.name) ≡ true
still written x d h = grind arith

one_fewer : (written : List Name) (log : NewestFirst) (e : NamedEvent) → e ∈ log → has written e.name ≡ false → unwritten (e.name ∷ written) log < unwritten written log
unfolding unwritten
one_fewer written log e i h =
    kept_fewer (λ d. not (has (e.name ∷ written) d.name)) (λ d. not (has written d.name)) (still written e.name) log e i
    (ap not (or_left (same e.name e.name) _ (same_own e.name))) (ap not h)

module _ (before : Name → Name → Bool) (o : Ordered before) (log : NewestFirst) (k : ParentsHeld log) where
  written_on : (n : ℕ) (written : List Name) → unwritten written log ≤ n → (es : List NamedEvent) × WrittenFrom before written log es
  written_on zero written l = elim (some_next before o log k written) [
    | inl all ↦ ([], all)
    | inr r ↦ absurd (let f = one_fewer written log r.0 r.1.ready.held r.1.ready.unwritten in omega (arith, f))
  ]
  written_on (suc n) written l = elim (some_next before o log k written) [
    | inl all ↦ ([], all)
    | inr r ↦
        let f = one_fewer written log r.0 r.1.ready.held r.1.ready.unwritten in
        let more = written_on n (r.0.name ∷ written) (omega (arith, f)) in
        (r.0 ∷ more.0, (r.1, more.1))
  ]

  pub some_archive : (es : List NamedEvent) × ArchiveOrder before log es
  some_archive = written_on (unwritten [] log) [] (omega arith)

-- An event in hand goes into a line or into the queue.
use Rattle.std.proofs.Common.{◌≡◌, ℕ, suc, ◌+◌, ◌<◌, ◌≤◌, cond, eqb, ◌⊎◌, List, [], ◌∷◌, ◌++◌, length, Some, sym, refl, ap, ◌∙◌, subst, inl, inr, arith}
use Rattle.std.specs.List.Sorted.{IsPermutation}
use Rattle.std.proofs.lemmas.Bool.{cases_eq, eq-eqb, ne_eqb, cond-true, cond-false}
use Rattle.std.proofs.lemmas.Option.{slice_get_within}
use Rattle.events.specs.declared.name.Name.{Name}
use Rattle.events.specs.Parts.{StoredEvent}
use Rattle.events.specs.WellFormed.{WellFormed}
use Rattle.fugue.specs.Names.{same}
use Rattle.stores.specs.Questions.{name_at, parent_at}
use Rattle.stores.specs.Together.{some_is}
use Rattle.stores.proofs.Asked.{name_below, parent_below, same_number}
use Rattle.archive.specs.Times.{times_named, times_numbered}
use Rattle.archive.specs.Parts.{number_of, first_of, behind_of, Open, Done, ReadyAt, Chain}
use Rattle.archive.specs.Waiting.{Waiting}
use Rattle.archive.proofs.Counting.{one_number, one_name, named_shuffled, named_append}
use Rattle.archive.proofs.Stored.{event_with_parent, names_few}

-- a chain depends only on what stands behind its events
pub chain_kept : (room : ℕ) (cells cells' : List ℕ) (w : ℕ) (ws : List ℕ) → ((v : ℕ) → 1 ≤ times_numbered ws v → behind_of room cells' v ≡ behind_of room cells v) → Chain room cells w ws → Chain room cells' w ws
chain_kept room cells cells' w [] h c = c
chain_kept room cells cells' w (v ∷ vs) h c = (
  c.0,
  subst (λ x. Chain room cells' x vs) (sym (h v (elim (one_number v v) [ inl r ↦ let k = r.1 in omega (arith, k) | inr r ↦ absurd (r.0 refl) ])))
      (chain_kept room cells cells' (behind_of room cells v) vs (λ u i. h u (omega (arith, i))) c.1),
)

module _ (es : List StoredEvent) (wf : WellFormed es) (room : ℕ) where
  pub parent_event : (w k p : ℕ) → parent_at es w k ≡ Some p → p < length es
  parent_event w k p h =
      let l = parent_below es wf w k p h in
      let r = event_with_parent _ k p h in
      let m = slice_get_within es w r.0 r.1 in
      omega (arith, l, m)

  -- the cells hold the same archive numbers
  abbrev pub SameNumbers : List ℕ → List ℕ → Type 0
  SameNumbers cells cells' = (v : ℕ) → v < length es → number_of room cells' v ≡ number_of room cells v

  pub ready_kept : (cells cells' : List ℕ) (w : ℕ) → SameNumbers cells cells' → w < length es → ReadyAt es room cells w → ReadyAt es room cells' w
  ready_kept cells cells' w s l r =
      (let q = s w l in let o = r.0 in omega (arith, q, o), λ k p h. let q = s p (parent_event w k p h) in let d = r.1 k p h in omega (arith, q, d))

  -- event e begins the line at p
  pub record Hung (cells cells' : List ℕ) (e p : ℕ) : Type 0 where
    pub numbers : SameNumbers cells cells'
    pub first : first_of room cells' p ≡ e
    pub firsts : (q : ℕ) → (q ≡ p → ⊥) → q < length es → first_of room cells' q ≡ first_of room cells q
    pub behind : behind_of room cells' e ≡ first_of room cells p
    pub behinds : (v : ℕ) → (v ≡ e → ⊥) → v < length es → behind_of room cells' v ≡ behind_of room cells v

  module _ (lines : ℕ → List ℕ) (e p : ℕ) where
    abbrev pub joins : ℕ → List ℕ
    joins q = cond (eqb q p) (e ∷ lines p) (lines q)

    joins_here : (q : ℕ) → q ≡ p → joins q ≡ e ∷ lines q
    joins_here q i = cond-true (eqb q p) (e ∷ lines p) (lines q) (eq-eqb q p i) ∙ ap (λ v. e ∷ lines v) (sym i)

    joins_other : (q : ℕ) → (q ≡ p → ⊥) → joins q ≡ lines q
    joins_other q i = cond-false (eqb q p) (e ∷ lines p) (lines q) (ne_eqb q p i)

    count_here : (q w : ℕ) → q ≡ p → times_numbered (joins q) w ≡ cond (eqb e w) 1 0 + times_numbered (lines q) w
    count_here q w i = ap (λ l. times_numbered l w) (joins_here q i)

    count_other : (q w : ℕ) → (q ≡ p → ⊥) → times_numbered (joins q) w ≡ times_numbered (lines q) w
    count_other q w i = ap (λ l. times_numbered l w) (joins_other q i)

  module _ (cells cells' : List ℕ) (queue : List Name) (lines : ℕ → List ℕ) (hand : List ℕ) (e : ℕ) (was : Waiting es room cells queue lines (e ∷ hand)) where
    -- event e itself is in hand once, and in no line
    mine : 1 ≤ times_numbered (e ∷ hand) e
    mine = elim (one_number e e) [ inl r ↦ let k = r.1 in omega (arith, k) | inr r ↦ absurd (r.0 refl) ]

    pub alone : (q : ℕ) → (times_numbered (lines q) e ≡ 0) × (times_numbered hand e ≡ 0)
    alone q = elim (one_number e e) [
      | inl r ↦ let k = r.1 in let s = was.single q e in (omega (arith, k, s), omega (arith, k, s))
      | inr r ↦ absurd (r.0 refl)
    ]

    module _ (p k : ℕ) (opened : Open es room cells p) (parent : parent_at es e k ≡ Some p) (h : Hung cells cells' e p) where
      opens : (v : ℕ) → v < length es → Open es room cells v → Open es room cells' v
      opens v l o = let q = h.numbers v l in omega (arith, q, o)

      line_kept : (q : ℕ) → Chain room cells (first_of room cells q) (lines q) → Chain room cells' (first_of room cells q) (lines q)
      line_kept q c =
          chain_kept room cells cells' (first_of room cells q) (lines q) (λ v i. h.behinds v (λ z. let a = (alone q).0 in let j : 1 ≤ times_numbered (lines q) e = rw z at i in omega (arith, a, j)) (was.waits q v i).2) c

      hung_links : (q : ℕ) → q < length es → Open es room cells' q → Chain room cells' (first_of room cells' q) (joins lines e p q)
      hung_links q l o =
          let oq : Open es room cells q = let n = h.numbers q l in omega (arith, n, o) in
          elim (cases_eq q p) [
            | inl i ↦
                subst (λ ws. Chain room cells' (first_of room cells' q) ws) (sym (joins_here lines e p q i))
                ((
                  ap (λ v. first_of room cells' v) i ∙ h.first,
                  subst (λ v. Chain room cells' v (lines q)) (ap (λ v. first_of room cells v) i ∙ sym h.behind) (line_kept q (was.links q l oq)),
                ))
            | inr i ↦
                subst (λ ws. Chain room cells' (first_of room cells' q) ws) (sym (joins_other lines e p q i))
                (subst (λ v. Chain room cells' v (lines q)) (sym (h.firsts q i l)) (line_kept q (was.links q l oq)))
          ]

      hung_waits : (q w : ℕ) → 1 ≤ times_numbered (joins lines e p q) w
          → (q < length es) × Open es room cells' q × (w < length es) × Open es room cells' w × ((j : ℕ) × (parent_at es w j ≡ Some q))
      hung_waits q w i = elim (cases_eq q p) [
        | inl z ↦ elim (one_number e w) [
          | inl r ↦
              let b = was.hands e mine in
              let lp = parent_event e k p parent in (
                subst (λ v. v < length es) (sym z) lp,
                subst (λ v. Open es room cells' v) (sym z) (opens p lp opened),
                subst (λ v. v < length es) r.0 b.0,
                subst (λ v. Open es room cells' v) r.0 (opens e b.0 b.1),
                (k, subst (λ v. parent_at es v k ≡ Some q) r.0 (parent ∙ ap Some (sym z))),
              )
          | inr r ↦ old (let c = count_here lines e p q w z in let y = r.1 in omega (arith, c, y, i))
        ]
        | inr z ↦ old (let c = count_other lines e p q w z in omega (arith, c, i))
      ]
        where
          old : 1 ≤ times_numbered (lines q) w → (q < length es) × Open es room cells' q × (w < length es) × Open es room cells' w × ((j : ℕ) × (parent_at es w j ≡ Some q))
          old j = let b = was.waits q w j in (b.0, opens q b.0 b.1, b.2, opens w b.2 b.3, b.4)

      hung_apart : (q r w : ℕ) → (q ≡ r → ⊥) → times_numbered (joins lines e p q) w + times_numbered (joins lines e p r) w ≤ 1
      hung_apart q r w ne =
          let a = was.apart q r w ne in
          let b = was.single q w in
          let c = was.single r w in
          elim (cases_eq q p) [
            | inl i ↦
                let f = count_here lines e p q w i in
                let g = count_other lines e p r w (λ z. ne (i ∙ sym z)) in
                omega (arith, a, b, c, f, g)
            | inr i ↦
                let f = count_other lines e p q w i in
                elim (cases_eq r p) [
                  | inl j ↦ let g = count_here lines e p r w j in omega (arith, a, b, c, f, g)
                  | inr j ↦ let g = count_other lines e p r w j in omega (arith, a, b, c, f, g)
                ]
          ]

      hung_single : (q w : ℕ) → times_numbered hand w + times_numbered (joins lines e p q) w ≤ 1
      hung_single q w =
          let b = was.single q w in
          elim (cases_eq q p) [
            | inl i ↦ let f = count_here lines e p q w i in omega (arith, b, f)
            | inr i ↦ let f = count_other lines e p q w i in omega (arith, b, f)
          ]

      hung_cover : (w : ℕ) (x : Name) → name_at es w ≡ Some x → Open es room cells' w
          → (1 ≤ times_named queue x) ⊎ ((1 ≤ times_numbered hand w) ⊎ ((q : ℕ) × (1 ≤ times_numbered (joins lines e p q) w)))
      hung_cover w x n o = elim (was.cover w x n (let l = name_below es w x n in let s = h.numbers w l in omega (arith, s, o))) [
        | inl i ↦ inl i
        | inr i ↦ elim i [
          | inl j ↦ elim (one_number e w) [
            | inl r ↦ inr (inr (p, (let f = count_here lines e p p w refl in let y = r.1 in omega (arith, f, y))))
            | inr r ↦ inr (inl (let y = r.1 in omega (arith, y, j)))
          ]
          | inr j ↦
              let q = j.0 in
              let t = j.1 in
              inr (inr (
                q,
                elim (cases_eq q p) [
                  | inl z ↦ let f = count_here lines e p q w z in omega (arith, f, t)
                  | inr z ↦ let f = count_other lines e p q w z in omega (arith, f, t)
                ],
              ))
        ]
      ]

      pub hung : Waiting es room cells' queue (joins lines e p) hand
      hung = record {
        once = was.once;
        ready = λ x i. let r = was.ready x i in (r.0, r.1, ready_kept cells cells' r.0 h.numbers (name_below es r.0 x r.1) r.2);
        links = hung_links;
        waits = hung_waits;
        apart = hung_apart;
        single = hung_single;
        hands = λ w i. let b = was.hands w (omega (arith, i)) in (b.0, opens w b.0 b.1, b.2);
        cover = hung_cover;
      }

  module _ (cells : List ℕ) (queue : List Name) (lines : ℕ → List ℕ) (hand : List ℕ) (e : ℕ) (x : Name) (was : Waiting es room cells queue lines (e ∷ hand)) (here : name_at es e ≡ Some x) where
    absent : times_named queue x ≡ 0
    absent = (was.hands e (mine cells cells queue lines hand e was)).2 x here

    -- there is a cell for it
    pub has_cell : suc (length queue) ≤ length es
    has_cell = names_few es (x ∷ queue) (λ y. elim (one_name x y) [
      | inl r ↦ let a = absent in let k = r.1 in let b : times_named queue y ≡ 0 = rw r.0 at a in omega (arith, k, b)
      | inr r ↦ let k = r.1 in let b = was.once y in omega (arith, k, b)
    ]) (λ y i. elim (one_name x y) [
      | inl r ↦ (e, here ∙ ap Some r.0)
      | inr r ↦ let b = was.ready y (let k = r.1 in omega (arith, k, i)) in (b.0, b.1)
    ])

    module _ (queue' : List Name) (more : (y : Name) → times_named queue' y ≡ times_named queue y + cond (same x y) 1 0) (parents : (k p : ℕ) → parent_at es e k ≡ Some p → Done es room cells p) where
      pub entered : Waiting es room cells queue' lines hand
      entered = record {
        once = λ y. let m = more y in elim (one_name x y) [
          | inl r ↦ let a = absent in let k = r.1 in let b : times_named queue y ≡ 0 = rw r.0 at a in omega (arith, k, b, m)
          | inr r ↦ let k = r.1 in let b = was.once y in omega (arith, k, b, m)
        ];
        ready = λ y i. elim (one_name x y) [
          | inl r ↦ (e, here ∙ ap Some r.0, ((was.hands e (mine cells cells queue lines hand e was)).1, parents))
          | inr r ↦ was.ready y (let k = r.1 in let m = more y in omega (arith, k, m, i))
        ];
        links = was.links;
        waits = was.waits;
        apart = was.apart;
        single = λ q w. let b = was.single q w in omega (arith, b);
        hands = λ w i.
            let b = was.hands w (omega (arith, i)) in (
              b.0,
              b.1,
              λ y n. elim (one_name x y) [
                | inl r ↦
                    let z = same_number es wf w e x (n ∙ ap Some (sym r.0)) here in
                    let a = (alone cells cells queue lines hand e was 0).1 in
                    let j : 1 ≤ times_numbered hand e = rw z at i in
                    absurd (omega (arith, a, j))
                | inr r ↦ let k = r.1 in let m = more y in let c = b.2 y n in omega (arith, k, m, c)
              ],
            );
        cover = λ w y n o. elim (was.cover w y n o) [
          | inl i ↦ inl (let m = more y in omega (arith, m, i))
          | inr i ↦ elim i [
            | inl j ↦ elim (one_number e w) [
              | inl r ↦ inl (let z : x ≡ y = some_is (sym here ∙ ap (name_at es) r.0 ∙ n) in elim (one_name x y) [
                | inl s ↦ let m = more y in let k = s.1 in omega (arith, m, k)
                | inr s ↦ absurd (s.0 z)
              ])
              | inr r ↦ inr (inl (let k = r.1 in omega (arith, k, j)))
            ]
            | inr j ↦ inr (inr j)
          ]
        ];
      }

-- a push counts the name once more
pub pushed_count : (xs ys : List Name) (x y : Name) → IsPermutation (xs ++ x ∷ []) ys → times_named ys y ≡ times_named xs y + cond (same x y) 1 0
pushed_count xs ys x y s =
    let a = named_shuffled (xs ++ x ∷ []) ys y s in
    let b = named_append xs (x ∷ []) y in
    omega (arith, a, b)

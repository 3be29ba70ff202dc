-- A version is its heads and all behind them, in every log that holds its events.
use Rattle.std.proofs.Common.{◌≡◌, Bool, true, false, cond, ◌&&◌, ◌||◌, ◌⊎◌, ◌↔◌, List, [], ◌∷◌, ◌++◌, sym, refl, ap, ◌∙◌, subst, ap₂, inl, inr, arith}
use Rattle.std.proofs.lemmas.Bool.{both_ways, or_cases, or_left, or_right}
use Rattle.std.proofs.lemmas.Bool.{and_parts}
use Rattle.std.proofs.lemmas.Bool.{false_from_ne_true}
use Rattle.events.specs.declared.name.Name.{Name}
use Rattle.events.specs.Parts.{NamedEvent, SameEvent}
use Rattle.fugue.specs.Names.{◌∈◌, same, has}
use Rattle.fugue.specs.Logs.{NewestFirst, names, Behind, parent, further, version, InVersion, Distinct, ParentsHeld, Within}
use Rattle.fugue.proofs.Lists.{all_member, in_either, map_member, member_map, has_member, member_has}
use Rattle.fugue.proofs.Names.{same_name, same_own, has_in, in_has, has_append}

-- the events held

pub held : (log : NewestFirst) (e : NamedEvent) → e ∈ log → has (names log) e.name ≡ true
held log e i = in_has (names log) e.name (map_member (λ d. d.name) log e i)

pub event_of_lem : (log : NewestFirst) (x : Name) → has (names log) x ≡ true → (e : NamedEvent) × (e ∈ log) × (e.name ≡ x)
event_of_lem log x h = let r = member_map (λ d. d.name) log x (has_in (names log) x h) in (r.0, r.1, sym r.2)

pub one_event : (log : NewestFirst) → Distinct log → (d e : NamedEvent) → d ∈ log → e ∈ log → d.name ≡ e.name → d ≡ e
one_event [] u d e i j q = elim i [ ]
one_event (c ∷ older) u d e (inl f) (inl g) q = f ∙ sym g
one_event (c ∷ older) u d e (inl f) (inr j) q = absurd (both_ways _ u.0 (rw (sym (ap (λ z. z.name) f) ∙ q) (held older e j)))
one_event (c ∷ older) u d e (inr i) (inl g) q = absurd (both_ways _ u.0 (rw (sym (ap (λ z. z.name) g) ∙ sym q) (held older d i)))
one_event (c ∷ older) u d e (inr i) (inr j) q = one_event older u.1 d e i j q

pub other_event : (older : NewestFirst) (e : NamedEvent) → has (names older) e.name ≡ false → (x : Name) → has (names older) x ≡ true → same e.name x ≡ false
other_event older e f x h = false_from_ne_true (same e.name x) (λ q. both_ways _ f (rw (same_name e.name x q) h))

pub parents_down : (log : NewestFirst) → ParentsHeld log → (e : NamedEvent) → e ∈ log → (p : Name) → p ∈ e.parents → has (names log) p ≡ true
parents_down [] k e i p j = elim i [ ]
parents_down (d ∷ older) k e (inl f) p j = or_right (same d.name p) _ (all_member _ d.parents p k.0 (rw f at j))
parents_down (d ∷ older) k e (inr i) p j = or_right (same d.name p) _ (parents_down older k.1 e i p j)

-- how a version is computed

abbrev pub reach : NamedEvent → List Name → List Name
reach e heads = cond (has heads e.name) (e.parents ++ heads) heads

pub version_step : (e : NamedEvent) (older : NewestFirst) (heads : List Name) (x : Name)
    → has (version (e ∷ older) heads) x ≡ ((has heads e.name && same e.name x) || has (version older (reach e heads)) x)
unfolding version
version_step e older heads x = go (has heads e.name) (version older (reach e heads))
  where
    go : (b : Bool) (v : List Name) → has (cond b (e.name ∷ v) v) x ≡ ((b && same e.name x) || has v x)
    go true v = refl
    go false v = refl

pub version_cases : (e : NamedEvent) (older : NewestFirst) (heads : List Name) (x : Name) → has (version (e ∷ older) heads) x ≡ true
    → ((has heads e.name ≡ true) × (e.name ≡ x)) ⊎ (has (version older (reach e heads)) x ≡ true)
version_cases e older heads x h = elim (or_cases _ _ (sym (version_step e older heads x) ∙ h)) [
  | inl q ↦ let r = and_parts (has heads e.name) (same e.name x) q in inl (r.0, same_name e.name x r.1)
  | inr q ↦ inr q
]

pub version_older : (e : NamedEvent) (older : NewestFirst) (heads : List Name) (x : Name) → has (version older (reach e heads)) x ≡ true → has (version (e ∷ older) heads) x ≡ true
version_older e older heads x h = version_step e older heads x ∙ or_right _ _ h

version_newest : (e : NamedEvent) (older : NewestFirst) (heads : List Name) (x : Name) → e.name ≡ x → has heads e.name ≡ true → has (version (e ∷ older) heads) x ≡ true
version_newest e older heads x q h =
    version_step e older heads x ∙ or_left (has heads e.name && same e.name x) _ (rw (h, q) (same_own x))

reach_head : (e : NamedEvent) (heads : List Name) (x : Name) → has heads x ≡ true → has (reach e heads) x ≡ true
reach_head e heads x h = go (has heads e.name)
  where
    go : (b : Bool) → has (cond b (e.parents ++ heads) heads) x ≡ true
    go true = has_append e.parents heads x ∙ or_right (has e.parents x) _ h
    go false = h

pub reach_parent : (e : NamedEvent) (heads : List Name) (x : Name) → has heads e.name ≡ true → has e.parents x ≡ true → has (reach e heads) x ≡ true
reach_parent e heads x t h = rw t (has_append e.parents heads x ∙ or_left _ (has heads x) h)

reach_cases : (e : NamedEvent) (heads : List Name) (x : Name) → x ∈ reach e heads → ((has heads e.name ≡ true) × (x ∈ e.parents)) ⊎ (x ∈ heads)
reach_cases e heads x i = go (has heads e.name) refl i
  where
    go : (b : Bool) → has heads e.name ≡ b → x ∈ cond b (e.parents ++ heads) heads → ((has heads e.name ≡ true) × (x ∈ e.parents)) ⊎ (x ∈ heads)
    go true q j = elim (in_either e.parents heads x j) [ inl k ↦ inl (q, k) | inr k ↦ inr k ]
    go false q j = inr j

pub version_held : (log : NewestFirst) (heads : List Name) (x : Name) → has (version log heads) x ≡ true → has (names log) x ≡ true
unfolding version
version_held [] heads x h = h
version_held (e ∷ older) heads x h = elim (version_cases e older heads x h) [
  | inl q ↦ or_left (same e.name x) _ (rw q.1 (same_own x))
  | inr q ↦ or_right (same e.name x) _ (version_held older (reach e heads) x q)
]

pub version_mono : (log : NewestFirst) (a b : List Name) → ((x : Name) → has a x ≡ true → has b x ≡ true)
    → (x : Name) → has (version log a) x ≡ true → has (version log b) x ≡ true
unfolding version
version_mono [] a b h x i = i
version_mono (e ∷ older) a b h x i =
    let up : (y : Name) → has (reach e a) y ≡ true → has (reach e b) y ≡ true
    = λ y j. elim (reach_cases e a y (has_in (reach e a) y j)) [
      | inl q ↦ reach_parent e b y (h e.name q.0) (in_has e.parents y q.1)
      | inr q ↦ reach_head e b y (h y (in_has a y q))
    ] in
    elim (version_cases e older a x i) [
      | inl q ↦ version_newest e older b x q.1 (h e.name q.0)
      | inr q ↦ version_older e older b x (version_mono older (reach e a) (reach e b) up x q)
    ]

pub version_heads : (log : NewestFirst) (heads : List Name) (x : Name) → has heads x ≡ true → has (names log) x ≡ true → has (version log heads) x ≡ true
unfolding version
version_heads [] heads x h k = k
version_heads (e ∷ older) heads x h k = elim (or_cases _ _ k) [
  | inl q ↦ let z = same_name e.name x q in version_newest e older heads x z (rw z h)
  | inr q ↦ version_older e older heads x (version_heads older (reach e heads) x (reach_head e heads x h) q)
]

-- a version goes by those of its heads that are held
pub version_same : (log : NewestFirst) (a b : List Name) → ((x : Name) → has (names log) x ≡ true → has a x ≡ has b x) → version log a ≡ version log b
unfolding version
version_same [] a b h = refl
version_same (e ∷ older) a b h = go (has a e.name) (has b e.name) (h e.name (or_left (same e.name e.name) _ (same_own e.name))) refl refl
    (version_same older (reach e a) (reach e b) (λ x i. more x i))
  where
    on : (x : Name) → has (names older) x ≡ true → has a x ≡ has b x
    on x i = h x (or_right (same e.name x) _ i)

    more : (x : Name) → has (names older) x ≡ true → has (reach e a) x ≡ has (reach e b) x
    more x i =
        let q = on x i in
        let r = h e.name (or_left (same e.name e.name) _ (same_own e.name)) in
        grind (arith, has_append e.parents a x, has_append e.parents b x)

    go : (s t : Bool) → s ≡ t → has a e.name ≡ s → has b e.name ≡ t → version older (reach e a) ≡ version older (reach e b)
        → cond s (e.name ∷ version older (reach e a)) (version older (reach e a)) ≡ cond t (e.name ∷ version older (reach e b)) (version older (reach e b))
    go s t q _ _ ih = ap₂ (λ c v. cond c (e.name ∷ v) v) q ih

-- an event that is in has its parents in
pub version_closed : (log : NewestFirst) → Distinct log → ParentsHeld log → (heads : List Name) (e : NamedEvent) → e ∈ log
    → has (version log heads) e.name ≡ true → (p : Name) → p ∈ e.parents → has (version log heads) p ≡ true
version_closed [] u k heads e i h p j = elim i [ ]
version_closed (d ∷ older) u k heads e (inl f) h p j = elim (version_cases d older heads e.name h) [
  | inl q ↦
      let jd : p ∈ d.parents = rw f at j in
      version_older d older heads p (version_heads older (reach d heads) p
      (reach_parent d heads p q.0 (in_has d.parents p jd)) (all_member _ d.parents p k.0 jd))
  | inr q ↦ absurd (both_ways _ u.0 (rw (ap (λ z. z.name) f) at (version_held older (reach d heads) e.name q)))
]
version_closed (d ∷ older) u k heads e (inr i) h p j = elim (version_cases d older heads e.name h) [
  | inl q ↦ absurd (both_ways _ u.0 (rw q.1 (held older e i)))
  | inr q ↦ version_older d older heads p (version_closed older u.1 k.1 (reach d heads) e i q p j)
]

-- what is behind an event

behind_more : (e : NamedEvent) (older : NewestFirst) {y x : Name} → Behind older y x → Behind (e ∷ older) y x
behind_more e older (parent d i q j) = parent d (inr i) q j
behind_more e older (further d p i q j b) = further d p (inr i) q j (behind_more e older b)

sound : (log : NewestFirst) (heads : List Name) (x : Name) → has (version log heads) x ≡ true → (x ∈ heads) ⊎ ((h : Name) × (h ∈ heads) × Behind log h x)
unfolding version
sound [] heads x v = absurd (both_ways false refl v)
sound (e ∷ older) heads x v = elim (version_cases e older heads x v) [
  | inl q ↦ inl (has_in heads x (rw q.1 at q.0))
  | inr q ↦ elim (sound older (reach e heads) x q) [
    | inl i ↦ elim (reach_cases e heads x i) [
      | inl r ↦ inr (e.name, has_in heads e.name r.0, parent e (inl refl) refl r.1)
      | inr r ↦ inl r
    ]
    | inr b ↦ elim (reach_cases e heads b.0 b.1) [
      | inl r ↦ inr (e.name, has_in heads e.name r.0, further e b.0 (inl refl) refl r.1 (behind_more e older b.2))
      | inr r ↦ inr (b.0, r, behind_more e older b.2)
    ]
  ]
]

module _ (log : NewestFirst) (u : Distinct log) (k : ParentsHeld log) where
  parents_in_lem : (heads : List Name) {y x : Name} → Behind log y x → has (version log heads) y ≡ true → has (version log heads) x ≡ true
  parents_in_lem heads (parent {x = x} e i q j) v = version_closed log u k heads e i (rw q v) x j
  parents_in_lem heads (further e p i q j b) v = parents_in_lem heads b (version_closed log u k heads e i (rw q v) p j)

  behind_from : {y x : Name} → Behind log y x → has (names log) y ≡ true
  behind_from (parent e i q j) = rw q at (held log e i)
  behind_from (further e p i q j b) = rw q at (held log e i)

  pub version_is : (heads : List Name) (x : Name) → x ∈ version log heads ↔ InVersion log heads x
  version_is heads x = (
    (λ i. let v = in_has (version log heads) x i in (has_in (names log) x (version_held log heads x v), sound log heads x v)),
    (λ r. has_in (version log heads) x (elim r.1 [
      | inl i ↦ version_heads log heads x (in_has heads x i) (in_has (names log) x r.0)
      | inr b ↦ parents_in_lem heads b.2 (version_heads log heads b.0 (in_has heads b.0 b.1) (behind_from b.2))
    ])),
  )

  pub behind_held : {y x : Name} → Behind log y x → has (names log) x ≡ true
  behind_held b =
      version_held log (names log) _ (parents_in_lem (names log) b (version_heads log (names log) _ (behind_from b) (behind_from b)))

-- events that are the same have the same parents
pub same_forth : {d e : NamedEvent} → SameEvent d e → (p : Name) → p ∈ d.parents → p ∈ e.parents
same_forth {d} {e} s p i = member_has e.parents p (s.parents.forth p (has_member d.parents p i))

pub same_back : {d e : NamedEvent} → SameEvent d e → (p : Name) → p ∈ e.parents → p ∈ d.parents
same_back {d} {e} s p i = member_has d.parents p (s.parents.back p (has_member e.parents p i))

-- a log whose events another log holds too
module _ (a b : NewestFirst) (w : Within a b) where
  pub within_held : (x : Name) → has (names a) x ≡ true → has (names b) x ≡ true
  within_held x h = let e = event_of_lem a x h in let r = w e.0 e.1 in rw (sym r.2.name ∙ e.2) at (held b r.0 r.1)

  pub behind_forth : {y x : Name} → Behind a y x → Behind b y x
  behind_forth (parent {x = x} e i q j) = let r = w e i in parent r.0 r.1 (sym r.2.name ∙ q) (same_forth r.2 x j)
  behind_forth (further e p i q j c) =
      let r = w e i in further r.0 p r.1 (sym r.2.name ∙ q) (same_forth r.2 p j) (behind_forth c)

  module _ (ub : Distinct b) (ka : ParentsHeld a) where
    -- the first log's event of a name that the second has
    own_event : (e : NamedEvent) → e ∈ b → has (names a) e.name ≡ true → (d : NamedEvent) × (d ∈ a) × SameEvent d e
    own_event e i h =
        let d = event_of_lem a e.name h in
        let r = w d.0 d.1 in
        (d.0, d.1, subst (SameEvent d.0) (one_event b ub r.0 e r.1 i (sym r.2.name ∙ d.2)) r.2)

    pub behind_back : {y x : Name} → Behind b y x → has (names a) y ≡ true → Behind a y x
    behind_back (parent {x = x} e i q j) h =
        let r = own_event e i (rw q h) in parent r.0 r.1 (r.2.name ∙ q) (same_back r.2 x j)
    behind_back (further e p i q j c) h =
        let r = own_event e i (rw q h) in
        let jp = same_back r.2 p j in
        further r.0 p r.1 (r.2.name ∙ q) jp (behind_back c (parents_down a ka r.0 r.1 p jp))

    module _ (ua : Distinct a) (kb : ParentsHeld b) (heads : List Name) (known : (x : Name) → x ∈ heads → has (names b) x ≡ true → has (names a) x ≡ true) where
      version_forth : (x : Name) → x ∈ version a heads → x ∈ version b heads
      version_forth x i =
          let r = (version_is a ua ka heads x).0 i in
          (version_is b ub kb heads x).1 (
            has_in (names b) x (within_held x (in_has (names a) x r.0)),
            elim r.1 [ inl j ↦ inl j | inr c ↦ inr (c.0, c.1, behind_forth c.2) ],
          )

      version_back : (x : Name) → x ∈ version b heads → x ∈ version a heads
      version_back x i =
          let r = (version_is b ub kb heads x).0 i in
          (version_is a ua ka heads x).1 (elim r.1 [
            | inl j ↦ (has_in (names a) x (known x j (in_has (names b) x r.0)), inl j)
            | inr c ↦
                let d = behind_back c.2 (known c.0 c.1 (behind_from b ub kb c.2)) in
                (has_in (names a) x (behind_held a ua ka d), inr (c.0, c.1, d))
          ])

      pub version_within : (x : Name) → x ∈ version a heads ↔ x ∈ version b heads
      version_within x = (version_forth x, version_back x)

-- no event is behind itself
older_behind : (e : NamedEvent) (older : NewestFirst) → Distinct (e ∷ older) → ParentsHeld (e ∷ older) → {y x : Name} → Behind (e ∷ older) y x → has (names older) y ≡ true → Behind older y x
older_behind e older u k b h = behind_back older (e ∷ older) (λ d i. (d, inr i, own d)) u k.1 b h
  where
    own : (d : NamedEvent) → SameEvent d d
    own d = record { name = refl; deed = refl; parents = record { forth = λ x i. i; back = λ x i. i } }

newest_behind : (e : NamedEvent) (older : NewestFirst) → Distinct (e ∷ older) → ParentsHeld (e ∷ older) → {y x : Name} → Behind (e ∷ older) y x → has (names older) x ≡ true
newest_behind e older u k (parent {x = x} d i q j) = elim i [
  | inl f ↦ all_member _ e.parents x k.0 (subst (λ z. x ∈ z.parents) f j)
  | inr h ↦ parents_down older k.1 d h x j
]
newest_behind e older u k (further d p i q j b) = newest_behind e older u k b

pub behind_irreflexive : (log : NewestFirst) → Distinct log → ParentsHeld log → (x : Name) → Behind log x x → ⊥
behind_irreflexive [] u k x (parent d i q j) = i
behind_irreflexive [] u k x (further d p i q j b) = i
behind_irreflexive (e ∷ older) u k x b = behind_irreflexive older u.1 k.1 x (older_behind e older u k b (newest_behind e older u k b))

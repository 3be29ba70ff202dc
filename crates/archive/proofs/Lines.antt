-- The events in hand, taken one after another from a line or in the order of their numbers.
use Rattle.std.proofs.Common.{◌≡◌, ℕ, zero, suc, ◌+◌, ◌-◌, ◌<◌, ◌≤◌, cond, eqb, List, [], ◌∷◌, length, take, sym, refl, ap, ◌∙◌, subst, inl, inr, arith, rules, Option, Some, None, IfSome}
use Rattle.std.specs.Option.{unwrap_or}
use Rattle.std.proofs.lemmas.Bool.{cases_lt, eq-eqb, ne_eqb}
use Rattle.events.specs.declared.name.Name.{Name}
use Rattle.events.specs.Parts.{StoredEvent}
use Rattle.events.specs.WellFormed.{WellFormed}
use Rattle.stores.proofs.Asked.{name_below}
use Rattle.archive.specs.Times.{times_numbered}
use Rattle.archive.specs.Parts.{none, behind_of, Chain}
use Rattle.archive.specs.Waiting.{Waiting, Handed, InHand, Settled}
use Rattle.archive.specs.Calls.{Cleared, Held, Placed}
use Rattle.archive.proofs.Counting.{one_number, fewer_numbers}
use Rattle.archive.proofs.Placing.{chain_kept, alone}

-- m numbers from i on
abbrev pub up_from : ℕ → ℕ → List ℕ
up_from i zero = []
up_from i (suc m) = i ∷ up_from (suc i) m

pub length_up : (i m : ℕ) → length (up_from i m) ≡ m
length_up i zero = refl
length_up i (suc m) = ap suc (length_up (suc i) m)

up_less : (i m v : ℕ) → v < i → times_numbered (up_from i m) v ≡ 0
up_less i zero v l = refl
up_less i (suc m) v l = elim (one_number i v) [
  | inl r ↦ let q = r.0 in absurd (omega arith)
  | inr r ↦ let k = r.1 in let ih = up_less (suc i) m v (omega arith) in omega (arith, k, ih)
]

pub up_outside : (i m v : ℕ) → i + m ≤ v → times_numbered (up_from i m) v ≡ 0
up_outside i zero v l = refl
up_outside i (suc m) v l = elim (one_number i v) [
  | inl r ↦ let q = r.0 in absurd (omega arith)
  | inr r ↦ let k = r.1 in let ih = up_outside (suc i) m v (omega arith) in omega (arith, k, ih)
]

pub up_within : (i m v : ℕ) → i ≤ v → v < i + m → times_numbered (up_from i m) v ≡ 1
up_within i zero v l h = absurd (omega arith)
up_within i (suc m) v l h = elim (one_number i v) [
  | inl r ↦ let k = r.1 in let q = r.0 in let z = up_less (suc i) m v (omega arith) in omega (arith, k, z)
  | inr r ↦ let k = r.1 in let ne : v ≡ i → ⊥ = λ q. r.0 (sym q) in let ih = up_within (suc i) m v (grind arith) (omega arith) in omega (arith, k, ih)
]

-- numbers below n, none twice, are at most n
pub numbers_few : (n : ℕ) (xs : List ℕ) → ((v : ℕ) → times_numbered xs v ≤ 1) → ((v : ℕ) → 1 ≤ times_numbered xs v → v < n) → length xs ≤ n
numbers_few n xs once below =
    let f = fewer_numbers xs (up_from 0 n) (λ v. elim (cases_lt v n) [
      | inl l ↦ let k = up_within 0 n v (omega arith) (omega arith) in let o = once v in omega (arith, k, o)
      | inr l ↦ elim (cases_lt 0 (times_numbered xs v)) [
        | inl h ↦ let b = below v (omega (arith, h)) in absurd (omega (arith, b, l))
        | inr h ↦ omega (arith, h)
      ]
    ]) in
    let l = length_up 0 n in
    omega (arith, f, l)

-- how long a line is, from its first event
abbrev pub steps : ℕ → ℕ → List ℕ → ℕ → ℕ
steps zero room cells w = 0
steps (suc f) room cells w = cond (eqb w none) 0 (suc (steps f room cells (behind_of room cells w)))

chain_steps : (f room : ℕ) (cells : List ℕ) (w : ℕ) (ws : List ℕ) → length ws ≤ f → ((v : ℕ) → 1 ≤ times_numbered ws v → v < none) → Chain room cells w ws → steps f room cells w ≡ length ws
chain_steps zero room cells w [] l h c = refl
chain_steps zero room cells w (v ∷ vs) l h c = absurd (omega arith)
chain_steps (suc f) room cells w [] l h c = let e = eq-eqb w none c in rw e refl
chain_steps (suc f) room cells w (v ∷ vs) l h c =
    let b = h v (elim (one_number v v) [ inl r ↦ let k = r.1 in omega (arith, k) | inr r ↦ absurd (r.0 refl) ]) in
    let q = c.0 in
    let e = ne_eqb w none (λ z. omega (arith, b, q, z)) in
    let ih = chain_steps f room cells (behind_of room cells v) vs (omega (arith, l)) (λ u i. h u (omega (arith, i))) c.1 in
    rw e (ap (λ u. suc (steps f room cells (behind_of room cells u))) q ∙ ap suc ih)

module _ (es : List StoredEvent) (wf : WellFormed es) (room : ℕ) (inside : length es ≤ room) (small : room ≤ 65536) where
  hand_below : (cells : List ℕ) (queue : List Name) (lines : ℕ → List ℕ) (hand : List ℕ) → Waiting es room cells queue lines hand → (v : ℕ) → 1 ≤ times_numbered hand v → v < length es
  hand_below cells queue lines hand was v i = (was.hands v i).0

  pub handed_steps : (cells : List ℕ) (queue : List Name) (len w : ℕ) (h : Handed es room cells queue len w) → steps (length es) room cells w ≡ length h.1
  handed_steps cells queue len w h =
      let was = h.2 in
      chain_steps (length es) room cells w h.1
      (numbers_few (length es) h.1 (λ v. let s = was.single 0 v in omega (arith, s)) (hand_below cells (take len queue) h.0 h.1 was))
      (λ v i. let b = (was.hands v i).0 in omega (arith, b, inside, small))
      h.3

  -- the line's first event is in hand
  first_in_hand : (cells : List ℕ) (w : ℕ) (hand : List ℕ) → Chain room cells w hand → (w ≡ none → ⊥) → (vs : List ℕ) × (hand ≡ w ∷ vs) × Chain room cells (behind_of room cells w) vs
  first_in_hand cells w [] c n = absurd (n c)
  first_in_hand cells w (v ∷ vs) c n = (vs, ap (λ u. u ∷ vs) (sym c.0), subst (λ u. Chain room cells (behind_of room cells u) vs) (sym c.0) c.1)

  pub first_below : (cells : List ℕ) (queue : List Name) (len w : ℕ) → Handed es room cells queue len w → (w ≡ none → ⊥) → w < length es
  first_below cells queue len w h n =
      let r = first_in_hand cells w h.1 h.3 n in
      (h.2.hands w (subst (λ ws. 1 ≤ times_numbered ws w) (sym r.1) (elim (one_number w w) [ inl s ↦ let k = s.1 in omega (arith, k) | inr s ↦ absurd (s.0 refl) ]))).0

  pub handed_more : (cells : List ℕ) (queue : List Name) (len w : ℕ) (cells' : List ℕ) (queue' : List Name) (len' : ℕ)
      → (h : Handed es room cells queue len w) → (w ≡ none → ⊥) → Placed es room w cells queue len cells' queue' len'
      → (g : Handed es room cells' queue' len' (behind_of room cells w)) × (suc (length g.1) ≡ length h.1)
  handed_more cells queue len w cells' queue' len' h n p =
      let r = first_in_hand cells w h.1 h.3 n in
      let was : Waiting es room cells (take len queue) h.0 (w ∷ r.0) = subst (λ ws. Waiting es room cells (take len queue) h.0 ws) r.1 h.2 in
      let s = p.settles h.0 r.0 was in
      let a = (alone es wf room cells cells (take len queue) h.0 r.0 w was 0).1 in (
        (
          s.0,
          r.0,
          s.1,
          chain_kept room cells cells' (behind_of room cells w) r.0
              (λ v i. p.behind v (λ z. let j : 1 ≤ times_numbered r.0 w = rw z at i in omega (arith, a, j)) (let b = (was.hands v (omega (arith, i))).0 in omega (arith, b, inside)))
              r.2,
        ),
        ap length (sym r.1),
      )

  -- the line's first event is in hand, and others are
  pub handed_first : (cells : List ℕ) (queue : List Name) (len w : ℕ) → Handed es room cells queue len w → (w ≡ none → ⊥) → InHand es room cells queue len w
  handed_first cells queue len w h n =
      let r = first_in_hand cells w h.1 h.3 n in
      (h.0, (r.0, subst (λ ws. Waiting es room cells (take len queue) h.0 ws) r.1 h.2))

  -- a line's first event is what its cell holds
  pub held_first : (cells : List ℕ) (queue : List Name) (len w : ℕ) (o : Option ℕ) → Handed es room cells queue len w → Held (length es) w o → unwrap_or o none ≡ w
  held_first cells queue len w (Some k) h e = e.0
  held_first cells queue len w None h e = go h.1 h.2 h.3
    where
      go : (ws : List ℕ) → Waiting es room cells (take len queue) h.0 ws → Chain room cells w ws → none ≡ w
      go [] was c = sym c
      go (v ∷ vs) was c =
          let b = (was.hands v (elim (one_number v v) [ inl r ↦ let k = r.1 in omega (arith, k) | inr r ↦ absurd (r.0 refl) ])).0 in
          absurd (omega (arith, b, c.0, e))

  pub held_below : (w : ℕ) (o : Option ℕ) → Held (length es) w o → IfSome o (λ k. k < length es)
  held_below w (Some k) e = omega (arith, e.0, e.1)
  held_below w None e = search rules

  -- the first event in hand is placed: what its cell held is the first of the rest
  pub next_waits : (cells : List ℕ) (queue : List Name) (len w : ℕ) (cells' : List ℕ) (queue' : List Name) (len' : ℕ) (o next : Option ℕ) (r count : ℕ) → r ≡ room → count ≡ length es
      → o ≡ Some w → w < length es → Handed es room cells queue len (unwrap_or o none) → Placed es room w cells queue len cells' queue' len' → Held count (behind_of r cells w) next
      → Handed es room cells' queue' len' (unwrap_or next none) × IfSome next (λ k. k < length es)
      × (suc (steps (length es) room cells' (unwrap_or next none)) ≤ steps (length es) room cells (unwrap_or o none))
  next_waits cells queue len w cells' queue' len' o next r count room-is count-is is less h p e =
      let first : unwrap_or o none ≡ w = ap (λ q. unwrap_or q none) is in
      let handed = subst (λ v. Handed es room cells queue len v) first h in
      let more = handed_more cells queue len w cells' queue' len' handed (λ z. omega (arith, z, less, inside, small)) p in
      let held = subst (λ m. Held m (behind_of room cells w) next) count-is (subst (λ q. Held count (behind_of q cells w) next) room-is e) in
      let at = held_first cells' queue' len' (behind_of room cells w) next more.0 held in
      let a = handed_steps cells' queue' len' (behind_of room cells w) more.0 in
      let b = handed_steps cells queue len w handed in
      let x = ap (λ v. steps (length es) room cells' v) at in
      let y = ap (λ v. steps (length es) room cells v) first in
      let f = more.1 in
      (subst (λ v. Handed es room cells' queue' len' v) (sym at) more.0, held_below (behind_of room cells w) next held, omega (arith, a, b, x, y, f))

  pub handed_none : (cells : List ℕ) (queue : List Name) (len w : ℕ) → Handed es room cells queue len w → w ≡ none → Settled es room cells queue len
  handed_none cells queue len w h n = go h.1 h.2 h.3
    where
      go : (ws : List ℕ) → Waiting es room cells (take len queue) h.0 ws → Chain room cells w ws → Settled es room cells queue len
      go [] was c = (h.0, was)
      go (v ∷ vs) was c =
          let b = (was.hands v (elim (one_number v v) [ inl r ↦ let k = r.1 in omega (arith, k) | inr r ↦ absurd (r.0 refl) ])).0 in
          let q = c.0 in
          absurd (omega (arith, b, q, n, inside, small))

  -- at first all events are in hand
  pub all_in_hand : (cells : List ℕ) → Cleared cells room (length es) → Waiting es room cells [] (λ p. []) (up_from 0 (length es))
  all_in_hand cells h = record {
    once = λ x. omega arith;
    ready = λ x i. absurd (omega arith);
    links = λ p l o. (h p l).1;
    waits = λ p w i. absurd (omega arith);
    apart = λ p q w i. omega arith;
    single = λ p w. elim (cases_lt w (length es)) [
      | inl l ↦ let k = up_within 0 (length es) w (omega arith) (omega arith) in omega (arith, k)
      | inr l ↦ let k = up_outside 0 (length es) w (omega arith) in omega (arith, k)
    ];
    hands = λ w i. elim (cases_lt w (length es)) [
      | inl l ↦ (l, (let k = (h w l).0 in omega (arith, k, inside, small)), λ x n. refl)
      | inr l ↦ let k = up_outside 0 (length es) w (omega arith) in absurd (omega (arith, k, i))
    ];
    cover = λ w x n o. let l = name_below es w x n in let k = up_within 0 (length es) w (omega arith) (omega (arith, l)) in inr (inl (omega (arith, k)));
  }

  -- the next event in hand, as all are taken by their numbers
  pub up_next : (e n : ℕ) → e < n → up_from e (n - e) ≡ e ∷ up_from (e + 1) (n - (e + 1))
  up_next e n l =
      let a : n - e ≡ suc (n - (e + 1)) = omega arith in
      let b : suc e ≡ e + 1 = omega arith in
      ap (λ m. up_from e m) a ∙ ap (λ i. e ∷ up_from i (n - (e + 1))) b

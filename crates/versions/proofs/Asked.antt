-- What the difference says of one event against others, and of a version against none.
use Rattle.std.proofs.Common.{◌≡◌, ℕ, zero, suc, ◌+◌, ◌-◌, ◌<◌, ◌≤◌, ◌↔◌, List, [], ◌∷◌, length, get_or, take, drop, Some, sym, refl, ap, ◌∙◌, subst, inl, inr, arith}
use Rattle.std.specs.List.{slice_get}
use Rattle.std.proofs.lemmas.List.{get_or-drop, length-drop, take_rest}
use Rattle.std.proofs.lemmas.Option.{same_Some, slice_get_within, slice_get-get_or}
use Rattle.events.specs.Parts.{StoredEvent}
use Rattle.versions.specs.Versions.{Head, InVersion, head, parent, OnlyIn}
use Rattle.versions.specs.Difference.{Known, Differ}
use Rattle.versions.specs.Questions.{OneBehind}

none_head : (x k : ℕ) → slice_get [] k ≡ Some x → ⊥
none_head x k h = cc

pub known_none : (count : ℕ) → Known count []
known_none count x h = absurd (none_head x h.0 h.1)

pub known_one : (count x : ℕ) → x < count → Known count (x ∷ [])
known_one count x low y (zero, h) = let q : x ≡ y = cc in omega arith
known_one count x low y (suc k, h) = absurd (none_head y k h)

module _ {es : List StoredEvent} where
  in_none : {x : ℕ} → InVersion es [] x → ⊥
  in_none (head {x} h l) = none_head x h.0 h.1
  in_none (parent i p) = in_none i

  pub only_none : (heads : List ℕ) (x : ℕ) → OnlyIn es heads [] x ↔ InVersion es heads x
  only_none heads x = ((λ h. h.0), (λ h. (h, in_none)))

  -- what is in a version is in that of one of its heads
  from_one : {hs : List ℕ} {x : ℕ} → InVersion es hs x → (y : ℕ) × Head hs y × InVersion es (y ∷ []) x
  from_one (head {x} h l) = (x, h, head (0, refl) l)
  from_one (parent i p) = let r = from_one i in (r.0, r.1, parent r.2 p)

  -- a version that has an event has that event's version
  within : {hs : List ℕ} (y : ℕ) {x : ℕ} → InVersion es (y ∷ []) x → InVersion es hs y → InVersion es hs x
  within {hs} y (head {x} (zero, h) l) j = let q : y ≡ x = cc in subst (InVersion es hs) q j
  within y (head {x} (suc k, h) l) j = absurd (none_head x k h)
  within y (parent i p) j = parent (within y i j) p

  from_head : {hs : List ℕ} (y : ℕ) {x : ℕ} → Head hs y → InVersion es (y ∷ []) x → InVersion es hs x
  from_head y h (head {x} (zero, e) l) = head (h.0, h.1 ∙ e) l
  from_head y h (head {x} (suc k, e) l) = absurd (none_head x k e)
  from_head y h (parent i p) = parent (from_head y h i) p

-- the list from a place on
pub head_rest : (xs : List ℕ) (m y : ℕ) → Head (take (length xs - m) (drop m xs)) y → (j : ℕ) × (m ≤ j) × (slice_get xs j ≡ Some y)
head_rest xs m y h =
    let at : slice_get (drop m xs) h.0 ≡ Some y = ap (λ l. slice_get l h.0) (sym (take_rest xs m)) ∙ h.1 in
    let low = slice_get_within (drop m xs) h.0 y at in
    let is : get_or (drop m xs) h.0 0 ≡ y = same_Some _ _ (sym (slice_get-get_or (drop m xs) h.0 0 low) ∙ at) in (
      m + h.0,
      omega arith,
      slice_get-get_or xs (m + h.0) 0 (omega (arith, length-drop m xs)) ∙ ap (λ z. Some z) (sym (get_or-drop m xs h.0 0) ∙ is),
    )

-- the list is its first event and those behind it
abbrev pub later : List ℕ → List ℕ
later xs = take (length xs - 1) (drop 1 xs)

split : (xs : List ℕ) → 1 ≤ length xs → xs ≡ get_or xs 0 0 ∷ later xs
split [] l = absurd (omega arith)
split (x ∷ xs) l = ap (λ ys. x ∷ ys) (sym (take_rest (x ∷ xs) 1))

pub known_parts : (count : ℕ) (xs : List ℕ) → 1 ≤ length xs → Known count xs → Known count (get_or xs 0 0 ∷ []) × Known count (later xs)
known_parts count xs l known =
    let k = subst (Known count) (split xs l) known in
    (known_one count (get_or xs 0 0) (k (get_or xs 0 0) (0, refl)), λ x h. k x (suc h.0, h.1))

-- the version of the first event against that of those behind it
module _ (es : List StoredEvent) (xs out new : List ℕ) (a b : ℕ) (some : 1 ≤ length xs) (d : Differ es (get_or xs 0 0 ∷ []) (later xs) out new a b) where
  own : InVersion es (get_or xs 0 0 ∷ []) (get_or xs 0 0)
  own = head (0, refl) (d.known.0 (get_or xs 0 0) (0, refl))

  pub one_found : a ≡ 0 → OneBehind es xs
  one_found z = subst (OneBehind es) (sym (split xs some)) (elim (d.first_is (get_or xs 0 0) own) [
    | inl h ↦ absurd (omega (arith, (d.firsts.all (get_or xs 0 0) h).1))
    | inr h ↦
        let r = from_one h in
        (0, suc r.1.0, get_or xs 0 0, r.0, record { apart = omega arith; earlier = refl; later = r.1.1; behind = r.2 })
  ])

  rest_only : (a ≡ 0 → ⊥) → OneBehind es (get_or xs 0 0 ∷ later xs) → OneBehind es (later xs)
  rest_only nz (zero, zero, x, y, h) = absurd (omega (arith, h.apart))
  rest_only nz (zero, suc j, x, y, h) =
      let first = d.firsts.only 0 (omega arith) in
      let is : x ≡ get_or xs 0 0 = cc h.earlier in
      absurd (first.1 (within (get_or xs 0 0) first.0 (subst (InVersion es (later xs)) is (from_head y (j, h.later) h.behind))))
  rest_only nz (suc i, zero, x, y, h) = absurd (omega (arith, h.apart))
  rest_only nz (suc i, suc j, x, y, h) = (i, j, x, y, record { apart = omega (arith, h.apart); earlier = h.earlier; later = h.later; behind = h.behind })

  pub none_found : (a ≡ 0 → ⊥) → OneBehind es xs → OneBehind es (later xs)
  none_found nz h = rest_only nz (subst (OneBehind es) (split xs some) h)

pub found_later : (es : List StoredEvent) (xs : List ℕ) → 1 ≤ length xs → OneBehind es (later xs) → OneBehind es xs
found_later es xs some (i, j, x, y, h) =
    subst (OneBehind es) (sym (split xs some)) (suc i, suc j, x, y, record { apart = omega (arith, h.apart); earlier = h.earlier; later = h.later; behind = h.behind })

-- What a pop says of the names in the queue.
use Rattle.std.proofs.Common.{◌≡◌, ℕ, ◌+◌, ◌<◌, ◌≤◌, Bool, false, cond, ltb, leb, List, [], ◌∷◌, ◌++◌, length, take, sym, refl, ◌∙◌, subst, inl, inr, arith}
use Rattle.std.specs.List.Sorted.{IsPermutation}
use Rattle.std.proofs.lemmas.List.{length-take-le, get_or-take}
use Rattle.std.proofs.lemmas.Bool.{and_cases, ltb-false, leb-false}
use Rattle.events.specs.declared.name.Name.{Name}
use Rattle.fugue.specs.Names.{same}
use Rattle.fugue.proofs.Lists.{has_member}
use Rattle.queue.specs.Heaps.{Leads, queued}
use Rattle.archive.specs.Times.{times_named}
use Rattle.archive.proofs.Counting.{one_name, in_named, named_shuffled, named_append}

pub popped_count : (xs ys : List Name) (x : Name) → IsPermutation xs (ys ++ x ∷ []) → (y : Name) → times_named xs y ≡ times_named ys y + cond (same x y) 1 0
popped_count xs ys x s y =
    let a = named_shuffled xs (ys ++ x ∷ []) y s in
    let b = named_append ys (x ∷ []) y in
    omega (arith, a, b)

pub popped_in : (xs ys : List Name) (x : Name) → IsPermutation xs (ys ++ x ∷ []) → 1 ≤ times_named xs x
popped_in xs ys x s =
    let a = popped_count xs ys x s x in
    elim (one_name x x) [ inl r ↦ let k = r.1 in omega (arith, a, k) | inr r ↦ absurd (r.0 refl) ]

pub leads_named : (before : Name → Name → Bool) (cells : List Name) (len : ℕ) (x : Name) → len ≤ length cells → Leads before cells len x → (y : Name) → 1 ≤ times_named (take len cells) y → before y x ≡ false
leads_named before cells len x l leads y i =
    let h = has_member (take len cells) y (in_named (take len cells) y i) in
    let t = length-take-le len cells l in
    let b = h.1 in
    let less : h.0 < len = omega (arith, b, t) in
    subst (λ z. before z x ≡ false) (sym (get_or-take len cells h.0 x less) ∙ h.2 x) (leads h.0 x less)

-- a queue that gives nothing has nothing
pub empty_queue : (cells : List Name) (len : ℕ) → len ≤ length cells → false ≡ queued cells len → len ≡ 0
empty_queue cells len l h = elim (and_cases (ltb 0 len) (leb len (length cells)) (sym h)) [
  | inl e ↦ let b = ltb-false 0 len e in omega (arith, b)
  | inr e ↦ let b = leb-false len (length cells) e in absurd (omega (arith, b, l))
]

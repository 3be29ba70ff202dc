-- What the marks from a bound up say of a version, and of two versions where all below the bound is in both.
use Rattle.std.proofs.Common.{◌≡◌, ℕ, ◌+◌, ◌<◌, ◌≤◌, ◌⊎◌, ◌↔◌, List, length, Some, sym, ap, ◌∙◌, inl, inr, arith}
use Rattle.std.specs.Option.{option_map, option_flatten}
use Rattle.std.specs.List.{slice_get}
use Rattle.std.proofs.lemmas.Bool.{cases_lt, cases_eq}
use Rattle.events.specs.Parts.{StoredEvent}
use Rattle.events.specs.WellFormed.{WellFormed}
use Rattle.stores.proofs.Asked.{parent_below}
use Rattle.versions.specs.Versions.{Parent, InVersion, head, parent, OnlyIn, Enumerates}
use Rattle.versions.specs.Marks.{Marked}
use Rattle.versions.specs.Searches.{Knows}

pub by_head : (es : List StoredEvent) (heads : List ℕ) (x k : ℕ) → slice_get heads k ≡ Some x → x < length es → InVersion es heads x
by_head es heads x k at low = head (k, at) low

pub by_parent : (es : List StoredEvent) (heads : List ℕ) (y x k : ℕ) (e : StoredEvent) → slice_get es y ≡ Some e → slice_get e.parents k ≡ Some x → InVersion es heads y → InVersion es heads x
by_parent es heads y x k e at is i = parent i (k, ap (λ o. option_flatten (option_map (λ ps. slice_get ps k) (option_map (λ (d : StoredEvent). d.parents) o))) at ∙ is)

module _ (es : List StoredEvent) (fit : WellFormed es) where
  pub parent_less : (y x : ℕ) → Parent es y x → x < y
  parent_less y x p = parent_below es fit y p.0 x p.1

  pub in_below : {heads : List ℕ} {x : ℕ} → InVersion es heads x → x < length es
  in_below (head h l) = l
  in_below (parent {y} {x} i p) = let a = in_below i in let b = parent_less y x p in omega arith

  -- what is in the version, from just below the bound up, has its mark
  pub complete : {heads : List ℕ} {other : ℕ} {m : ℕ → ℕ} {bound : ℕ} → Knows es heads other m bound → {x : ℕ} → InVersion es heads x → bound ≤ x + 1 → Marked other (m x)
  complete k (head {x} h l) up = k.starts x h
  complete k (parent {y} {x} i p) up =
      let l = parent_less y x p in k.closed y x (omega arith) (complete k i (omega arith)) p

  -- where every mark below the bound is of the second version too, so is every event of the first
  pub settled : {first second : List ℕ} {a b : ℕ} {m : ℕ → ℕ} {bound : ℕ} → Knows es first a m bound → Knows es second b m bound → ((x : ℕ) → x < bound → Marked a (m x) → Marked b (m x)) → {x : ℕ} → InVersion es first x → x < bound → InVersion es second x
  settled k j both (head {x} h l) low = j.sound x (both x low (k.starts x h))
  settled {bound = bound} k j both (parent {y} {x} i p) low = elim (cases_lt y bound) [
    | inl less ↦ parent (settled k j both i less) p
    | inr up ↦ j.sound x (both x low (k.closed y x up (complete k i (omega arith)) p))
  ]

  -- the events of one version alone are those from the bound up with its mark alone
  pub alone : {first second : List ℕ} (a b : ℕ) {m : ℕ → ℕ} {bound : ℕ} → (b ≡ 0 → ⊥) → (b ≡ a → ⊥) → Knows es first a m bound → Knows es second b m bound → ((x : ℕ) → x < bound → Marked a (m x) → Marked b (m x)) → (x : ℕ) → ((m x ≡ b) × (bound ≤ x)) ↔ OnlyIn es first second x
  alone a b {m} {bound} nz apart k j both x = (
    (λ h. (
      k.sound x ((λ z. nz (sym h.0 ∙ z)), (λ z. apart (sym h.0 ∙ z))),
      λ i. (complete j i (omega arith)).1 h.0,
    )),
    (λ h. elim (cases_lt x bound) [
      | inl less ↦ absurd (h.1 (settled k j both h.0 less))
      | inr up ↦ (
        elim (cases_eq (m x) b) [
          | inl e ↦ e
          | inr n ↦ absurd (h.1 (j.sound x ((complete k h.0 (omega arith)).0, n)))
        ],
        up,
      )
    ]),
  )

  -- an event of the first version is in it alone, or in the second too
  pub either : {first second : List ℕ} (a b : ℕ) {m : ℕ → ℕ} {bound : ℕ} → (b ≡ 0 → ⊥) → (b ≡ a → ⊥) → Knows es first a m bound → Knows es second b m bound → ((x : ℕ) → x < bound → Marked a (m x) → Marked b (m x)) → (x : ℕ) → InVersion es first x → OnlyIn es first second x ⊎ InVersion es second x
  either a b {m} {bound} nz apart k j both x i = elim (cases_lt x bound) [
    | inl less ↦ inr (settled k j both i less)
    | inr up ↦ elim (cases_eq (m x) b) [
      | inl e ↦ inl ((alone a b nz apart k j both x).0 (e, up))
      | inr n ↦ inr (j.sound x ((complete k i (omega arith)).0, n))
    ]
  ]

-- numbers of one kind are those of another that has the same
pub enumerates_same : {n : ℕ} {at : ℕ → ℕ} {P Q : ℕ → Type 0} → ((x : ℕ) → P x ↔ Q x) → Enumerates n at P → Enumerates n at Q
enumerates_same {at = at} same e = record {
  falls = e.falls;
  only = λ i l. (same (at i)).0 (e.only i l);
  all = λ x q. e.all x ((same x).1 q);
}

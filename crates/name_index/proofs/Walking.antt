-- One step of the walk for a name, and its end.
use Rattle.std.proofs.Common.{◌≡◌, ℕ, suc, ◌+◌, ◌-◌, ◌<◌, ◌≤◌, Bool, List, map, length, get_or, Some, None, Option, sym, refl, ap, ◌∙◌, inl, inr, arith}
use mathlib.Core.Logic.{∥∥₁_elim}
use native.Mathlib.Bridge.{le_prop}
use Rattle.std.specs.List.{slice_get}
use Rattle.std.proofs.lemmas.Option.{none-some, same_Some, slice_get_read}
use Rattle.std.proofs.lemmas.Bool.{cases_eq, cases_lt}
use Rattle.events.specs.declared.name.Name.{Name}
use Rattle.name_index.specs.declared.node.Node.{Node}
use Rattle.name_index.specs.Numbers.{Absent}
use Rattle.name_index.specs.Walks.{turn_of, link_of, link_at, place, name_of, Sound}
use Rattle.name_index.specs.Ends.{Free}
use Rattle.name_index.proofs.Links.{name_of_read}
use Rattle.name_index.proofs.Growth.{step_on, ended}
use Rattle.name_index.proofs.Bits.{names_same}

-- wherever the name stands, the walk has not come past it in d steps
abbrev Ahead : List Node → Name → ℕ → Type 0
Ahead ns x d = (k e : ℕ) → slice_get (map name_of ns) k ≡ Some x → place ns x e ≡ Some k → d ≤ e

ahead_more : (ns : List Node) (x : Name) (d k : ℕ) → place ns x d ≡ Some k → (slice_get (map name_of ns) k ≡ Some x → ⊥) → Ahead ns x d → Ahead ns x (d + 1)
ahead_more ns x d k p other h j e q r =
    let l = h j e q r in
    elim (cases_eq d e) [
      | inl z ↦ absurd (other (ap (slice_get (map name_of ns)) (same_Some _ _ (sym p ∙ ap (place ns x) z ∙ r)) ∙ q))
      | inr z ↦ omega arith
    ]

-- at an absent link the walk ends, and the name stands nowhere
absent_at : (ns : List Node) → ∥ Sound ns ∥₁ → (x : Name) (d k : ℕ) → place ns x d ≡ Some k → link_at ns k (turn_of x d) ≡ None → Ahead ns x (d + 1) → Absent (map name_of ns) x
absent_at ns t x d k p none h j q =
    ∥∥₁_elim t (λ a b. absurd a)
    (λ s.
    let w = s.walked j x q in
    let l = h j w.0 q w.1 in
    let z : w.0 ≡ (w.0 - suc d) + suc d = omega arith in
    none-some _ (sym (ended ns x (suc d) (step_on ns x d k None p none) (w.0 - suc d)) ∙ ap (place ns x) (sym z) ∙ w.1))

-- a walk that has taken 44 steps has come to its name
pub long_walk : (ns : List Node) → Sound ns → (x y : Name) (d k : ℕ) → place ns x d ≡ Some k → slice_get (map name_of ns) k ≡ Some y → 44 ≤ d → x ≡ y
long_walk ns s x y d k p q h =
    let w = s.walked k y q in
    let m = s.meets x y d w.0 k p w.1 in
    names_same x y (λ i l. m.1 i (omega arith))

-- the walk for x stands at node k after d steps, and has not come past x
abbrev pub Stands : List Node → Name → ℕ → ℕ → Type 0
Stands ns x k d = (k < length ns) × (d ≤ 44) × (place ns x d ≡ Some k) × Ahead ns x d

-- at node n, which has another name
module _ (ns : List Node) (t : ∥ Sound ns ∥₁) (x : Name) (k d : ℕ) (n : Node) (here : Stands ns x k d) (read : n ≡ get_or ns k n) (other : n.name ≡ x → ⊥) where
  at : slice_get ns k ≡ Some n
  at = slice_get_read ns (length ns) k n refl here.0 read

  passed : Ahead ns x (d + 1)
  passed = ahead_more ns x d k here.2 (λ e. other (same_Some _ _ (sym (name_of_read ns k n at) ∙ e))) here.3

  short : d < 44
  short =
      ∥∥₁_elim t le_prop
      (λ s.
      elim (cases_lt d 44) [
        | inl l ↦ l
        | inr l ↦ absurd (other (sym (long_walk ns s x n.name d k here.2 (name_of_read ns k n at) l)))
      ])

  link_is : (b : Bool) (o : Option ℕ) → b ≡ turn_of x d → o ≡ link_of b (Some n) → link_at ns k (turn_of x d) ≡ o
  link_is b o turned e = ap (link_of (turn_of x d)) at ∙ ap (λ (c : Bool). link_of c (Some n)) (sym turned) ∙ sym e

  pub ends_free : (b : Bool) → b ≡ turn_of x d → None ≡ link_of b (Some n) → Free ns x k d × Absent (map name_of ns) x × (d < 44)
  ends_free b turned e =
      let none = link_is b None turned e in
      ((here.2, here.0, none), absent_at ns t x d k here.2 none passed, short)

  pub goes_on : (b : Bool) (j : ℕ) → b ≡ turn_of x d → Some j ≡ link_of b (Some n) → Stands ns x j (d + 1)
  goes_on b j turned e =
      let link = link_is b (Some j) turned e in
      let z : suc d ≡ d + 1 = omega arith in
      let lt = short in (
        ∥∥₁_elim t le_prop (λ s. (s.rising k (turn_of x d) j link).1),
        omega arith,
        ap (place ns x) (sym z) ∙ step_on ns x d k (Some j) here.2 link,
        passed,
      )

pub goes_up : (ns : List Node) → ∥ Sound ns ∥₁ → (k : ℕ) (b : Bool) (n : Node) → slice_get ns k ≡ Some n → (j : ℕ) → link_of b (Some n) ≡ Some j → k < j
goes_up ns t k b n at j e = ∥∥₁_elim t le_prop (λ s. (s.rising k b j (ap (link_of b) at ∙ e)).0)

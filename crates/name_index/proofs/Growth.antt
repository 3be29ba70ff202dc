-- What holds of the nodes of an index holds again when a name is added.
use Rattle.std.proofs.Common.{◌≡◌, ℕ, zero, suc, ◌+◌, ◌<◌, Bool, true, false, ◌⊎◌, List, [], ◌∷◌, ◌++◌, map, length, Some, None, Option, sym, refl, ap, ◌∙◌, subst, inl, inr, arith}
use mathlib.Core.Logic.{∥∥₁_map}
use lib.ListN.{length-map}
use Rattle.std.specs.List.{slice_get}
use Rattle.std.proofs.lemmas.List.{length_push}
use Rattle.std.proofs.lemmas.Option.{none-some, same_Some, slice_get-get_or}
use Rattle.std.proofs.lemmas.Bool.{cases_order}
use Rattle.events.specs.declared.name.Name.{Name}
use Rattle.name_index.specs.declared.node.Node.{Node}
use Rattle.name_index.specs.Numbers.{Distinct, Absent}
use Rattle.name_index.specs.Walks.{turn_of, leaf, hung, link_at, onward, place, name_of, Agree, Sound}
use Rattle.name_index.specs.Ends.{Free}
use Rattle.name_index.proofs.Links.{nth_push_cases, link_below, hung_at, link_kept, link_cases, link_hung, names_push, names_hung}

-- ---- walks

-- the node before the last step
pub step_back : (ns : List Node) (b : Bool) (o : Option ℕ) (j : ℕ) → onward ns b o ≡ Some j → (m : ℕ) × (o ≡ Some m) × (link_at ns m b ≡ Some j)
step_back ns b None j e = cc
step_back ns b (Some m) j e = (m, refl, e)

-- one step more
pub step_on : (ns : List Node) (x : Name) (d m : ℕ) (o : Option ℕ) → place ns x d ≡ Some m → link_at ns m (turn_of x d) ≡ o → place ns x (suc d) ≡ o
step_on ns x d m o e h = ap (onward ns (turn_of x d)) e ∙ h

-- where a walk has ended it stays ended
pub ended : (ns : List Node) (x : Name) (d : ℕ) → place ns x d ≡ None → (m : ℕ) → place ns x (m + d) ≡ None
ended ns x d e zero = let z : zero + d ≡ d = omega arith in ap (place ns x) z ∙ e
ended ns x d e (suc m) =
    let z : suc m + d ≡ suc (m + d) = omega arith in
    ap (place ns x) z ∙ ap (onward ns (turn_of x (m + d))) (ended ns x d e m)

-- a walk stays among the nodes
pub place_below : (ns : List Node) → Sound ns → 0 < length ns → (x : Name) (d k : ℕ) → place ns x d ≡ Some k → k < length ns
place_below ns s h x zero k e = let z : 0 ≡ k = same_Some _ _ e in omega arith
place_below ns s h x (suc d) k e =
    let b = step_back ns (turn_of x d) (place ns x d) k e in (s.rising b.0 (turn_of x d) k b.2).1

-- ---- a node hung at an absent link: ns' for the nodes then

abbrev Kept : List Node → List Node → Type 0
Kept ns ns' = (m : ℕ) (b : Bool) (j : ℕ) → link_at ns m b ≡ Some j → link_at ns' m b ≡ Some j

abbrev Known : List Node → List Node → ℕ → Bool → Type 0
Known ns ns' k c = (m : ℕ) (b : Bool) (j : ℕ) → link_at ns' m b ≡ Some j → (link_at ns m b ≡ Some j) ⊎ ((m ≡ k) × (b ≡ c) × (j ≡ length ns))

place_kept : (ns ns' : List Node) → Kept ns ns' → (x : Name) (d k : ℕ) → place ns x d ≡ Some k → place ns' x d ≡ Some k
place_kept ns ns' old x zero k e = e
place_kept ns ns' old x (suc d) k e =
    let b = step_back ns (turn_of x d) (place ns x d) k e in
    step_on ns' x d b.0 (Some k) (place_kept ns ns' old x d b.0 b.1) (old b.0 (turn_of x d) k b.2)

-- a walk comes to the new node by the new link
abbrev ByNew : List Node → ℕ → Bool → Name → ℕ → ℕ → Type 0
ByNew ns k c y d j = (e : ℕ) × (d ≡ suc e) × (j ≡ length ns) × (place ns y e ≡ Some k) × (turn_of y e ≡ c)

place_cases : (ns ns' : List Node) (k : ℕ) (c : Bool) → k < length ns → Known ns ns' k c → (y : Name) (d j : ℕ) → place ns' y d ≡ Some j → (place ns y d ≡ Some j) ⊎ ByNew ns k c y d j
place_cases ns ns' k c lt new y zero j e = inl e
place_cases ns ns' k c lt new y (suc d) j e =
    let b = step_back ns' (turn_of y d) (place ns' y d) j e in
    let m = b.0 in
    elim (place_cases ns ns' k c lt new y d m b.1) [
      | inl p ↦ elim (new m (turn_of y d) j b.2) [
        | inl l ↦ inl (step_on ns y d m (Some j) p l)
        | inr l ↦ inr (d, refl, l.2, p ∙ ap Some l.0, l.1)
      ]
      | inr p ↦ elim (new m (turn_of y d) j b.2) [
        | inl l ↦ absurd (let h = link_below ns m (turn_of y d) j l in let q = p.2 in omega arith)
        | inr l ↦ absurd (let q = p.2 in let r = l.0 in omega arith)
      ]
    ]

agree_more : (x y : Name) (d : ℕ) → Agree x y d → turn_of x d ≡ turn_of y d → Agree x y (suc d)
agree_more x y d h e i lt =
    elim (cases_order i d) [
      | inl q ↦ ap (turn_of x) q ∙ e ∙ ap (turn_of y) (sym q)
      | inr q ↦ elim q [ inl l ↦ h i l | inr l ↦ absurd (omega arith) ]
    ]

meets_new : (ns : List Node) (k : ℕ) (c : Bool) → Sound ns → (x y : Name) (d e j i : ℕ) → ByNew ns k c x d j → ByNew ns k c y e i → (d ≡ e) × Agree x y d
meets_new ns k c s x y d e j i p q =
    let h = s.meets x y p.0 q.0 k p.3 q.3 in
    let z : d ≡ e = p.1 ∙ ap suc h.0 ∙ sym q.1 in
    let t : turn_of x p.0 ≡ turn_of y p.0 = p.4 ∙ sym q.4 ∙ ap (turn_of y) (sym h.0) in
    (z, subst (λ (n : ℕ). Agree x y n) (sym p.1) (agree_more x y p.0 h.1 t))

meets_hung : (ns ns' : List Node) (k : ℕ) (c : Bool) → Sound ns → k < length ns → Known ns ns' k c → (x y : Name) (d e j : ℕ) → place ns' x d ≡ Some j → place ns' y e ≡ Some j → (d ≡ e) × Agree x y d
meets_hung ns ns' k c s lt new x y d e j p q =
    let some : 0 < length ns = omega arith in
    elim (place_cases ns ns' k c lt new x d j p) [
      | inl a ↦ elim (place_cases ns ns' k c lt new y e j q) [
        | inl b ↦ s.meets x y d e j a b
        | inr b ↦ absurd (let h = place_below ns s some x d j a in let z = b.2 in omega arith)
      ]
      | inr a ↦ elim (place_cases ns ns' k c lt new y e j q) [
        | inl b ↦ absurd (let h = place_below ns s some y e j b in let z = a.2 in omega arith)
        | inr b ↦ meets_new ns k c s x y d e j j a b
      ]
    ]

-- ---- names

distinct_push : (xs : List Name) (x : Name) → Distinct xs → Absent xs x → Distinct (xs ++ x ∷ [])
distinct_push xs x h a i j y p q =
    elim (nth_push_cases xs x y i p) [
      | inl s ↦ elim (nth_push_cases xs x y j q) [
        | inl t ↦ h i j y s t
        | inr t ↦ absurd (a i (s ∙ ap Some (sym t.1)))
      ]
      | inr s ↦ elim (nth_push_cases xs x y j q) [
        | inl t ↦ absurd (a j (t ∙ ap Some (sym s.1)))
        | inr t ↦ s.0 ∙ sym t.0
      ]
    ]

length_grown : (ns ns' : List Node) (x : Name) → map name_of ns' ≡ map name_of ns ++ x ∷ [] → length ns' ≡ suc (length ns)
length_grown ns ns' x e =
    let a = length-map ns name_of in
    let b = length-map ns' name_of in
    let c = length_push (map name_of ns) x in
    let f : length (map name_of ns') ≡ length (map name_of ns ++ x ∷ []) = ap length e in
    omega arith

-- ---- the three ways in which an index comes about

-- with no link a walk stays at node 0
meets_bare : (ns : List Node) → ((m : ℕ) (b : Bool) (j : ℕ) → link_at ns m b ≡ Some j → ⊥) → (x y : Name) (d e k : ℕ) → place ns x d ≡ Some k → place ns y e ≡ Some k → (d ≡ e) × Agree x y d
meets_bare ns bare x y zero zero k p q = (refl, λ i lt. absurd (omega arith))
meets_bare ns bare x y zero (suc e) k p q =
    let b = step_back ns (turn_of y e) (place ns y e) k q in absurd (bare b.0 (turn_of y e) k b.2)
meets_bare ns bare x y (suc d) e k p q =
    let b = step_back ns (turn_of x d) (place ns x d) k p in absurd (bare b.0 (turn_of x d) k b.2)

pub sound_none : Sound []
sound_none = record {
  rising = λ k b j h. cc;
  walked = λ k x h. cc;
  meets = meets_bare [] (λ m b j h. cc);
  apart = λ i j x h f. cc;
}

-- the same of a list that is empty
pub sound_empty : (ns : List Node) → ns ≡ [] → ∥ Sound ns ∥₁
sound_empty ns e = ∣ subst Sound (sym e) sound_none ∣₁

leaf_bare : (x : Name) (m : ℕ) (b : Bool) (j : ℕ) → link_at (leaf x ∷ []) m b ≡ Some j → ⊥
leaf_bare x zero true j e = none-some _ e
leaf_bare x zero false j e = none-some _ e
leaf_bare x (suc m) b j e = none-some _ e

leaf_walked : (x : Name) (k : ℕ) (y : Name) → slice_get (x ∷ []) k ≡ Some y → (d : ℕ) × (place (leaf x ∷ []) y d ≡ Some k)
leaf_walked x zero y e = (0, refl)
leaf_walked x (suc k) y e = cc

pub sound_one : (x : Name) → Sound (leaf x ∷ [])
sound_one x = record {
  rising = λ k b j e. absurd (leaf_bare x k b j e);
  walked = leaf_walked x;
  meets = meets_bare (leaf x ∷ []) (leaf_bare x);
  apart = distinct_push [] x (λ i j y e f. cc) (λ k e. none-some _ e);
}

pub sound_hung : (ns : List Node) (x : Name) (k d : ℕ) (n : Node) → Sound ns → Free ns x k d → Absent (map name_of ns) x → slice_get ns k ≡ Some n → Sound (hung_at ns k n (turn_of x d) (length ns) x)
sound_hung ns x k d n s free none at =
    let c = turn_of x d in
    let ns' = hung_at ns k n c (length ns) x in
    let names = names_hung ns k n c (length ns) x at in
    let long = length_grown ns ns' x names in
    let old : Kept ns ns' = link_kept ns k n c (length ns) x at free.2 in
    let new : Known ns ns' k c = link_cases ns k n c (length ns) x at in
    record {
      rising = λ m b j e.
          elim (new m b j e) [
            | inl l ↦ let h = s.rising m b j l in (h.0, omega arith)
            | inr l ↦ let p = l.0 in let q = l.2 in let r = free.1 in (omega arith, omega arith)
          ];
      walked = λ m y e.
          elim (nth_push_cases (map name_of ns) x y m (ap (λ (l : List Name). slice_get l m) (sym names) ∙ e)) [
            | inl h ↦ let w = s.walked m y h in (w.0, place_kept ns ns' old y w.0 m w.1)
            | inr h ↦
                let z : length ns ≡ m = sym (h.0 ∙ length-map ns name_of) in
                let w : place ns' x (suc d) ≡ Some (length ns) = step_on ns' x d k (Some (length ns)) (place_kept ns ns' old x d k free.0) (link_hung ns k n c (length ns) x at) in
                (suc d, ap (λ (u : Name). place ns' u (suc d)) (sym h.1) ∙ w ∙ ap Some z)
          ];
      meets = meets_hung ns ns' k c s free.1 new;
      apart = subst Distinct (sym names) (distinct_push (map name_of ns) x s.apart none);
    }

-- ---- the same from what the code has

abbrev pub Grown : List Node → Name → List Node → Type 0
Grown ns x ns' = ∥ Sound ns' ∥₁ × (map name_of ns' ≡ map name_of ns ++ x ∷ []) × Absent (map name_of ns) x

pub grown_first : (ns ns' : List Node) (x : Name) → ns ≡ [] → ns' ≡ ns ++ leaf x ∷ [] → Grown ns x ns'
grown_first ns ns' x none e = (
  ∣ subst Sound (sym (e ∙ ap (λ (l : List Node). l ++ leaf x ∷ []) none)) (sound_one x) ∣₁,
  ap (map name_of) e ∙ names_push ns x,
  λ k h. none-some _ (sym (ap (λ (l : List Node). slice_get (map name_of l) k) none) ∙ h),
)

pub grown_hung : (ns ns' : List Node) (x : Name) (k d : ℕ) → ∥ Sound ns ∥₁ → Free ns x k d → Absent (map name_of ns) x → ns' ≡ hung ns k (turn_of x d) x → Grown ns x ns'
grown_hung ns ns' x k d t free none e =
    let at = slice_get-get_or ns k (leaf x) free.1 in (
      ∥∥₁_map t (λ s. subst Sound (sym e) (sound_hung ns x k d _ s free none at)),
      ap (map name_of) e ∙ names_hung ns k _ (turn_of x d) (length ns) x at,
      none,
    )

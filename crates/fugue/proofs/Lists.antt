-- Members of lists, and lists in a strict order.
use Rattle.std.proofs.Common.{◌≡◌, ℕ, zero, suc, ◌<◌, ◌≤◌, Bool, true, false, ◌⊎◌, ◌↔◌, List, [], ◌∷◌, ◌++◌, map, length, get_or, Some, filter, sym, refl, ap, ◌∙◌, ap₂, inl, inr, arith}
use Rattle.std.specs.List.{ContainsAt as Has, flat_map, AllByRecursion, slice_get}
use Rattle.std.proofs.lemmas.Bool.{cond_both}
use Rattle.std.proofs.ByRecursion.{All-append, all_kept_by, kept_by_passes, All-weaker}
use Rattle.fugue.specs.Names.{◌∈◌, Rising}

-- the two lists have the same members
abbrev pub Alike : {X : Type 0} → List X → List X → Type 0
Alike {X} xs ys = (x : X) → x ∈ xs ↔ x ∈ ys

module _ {X : Type 0} where
  pub all_member : (P : X → Type 0) (xs : List X) (x : X) → AllByRecursion P xs → x ∈ xs → P x
  all_member P [] x a i = elim i [ ]
  all_member P (y ∷ ys) x a (inl e) = rw e a.0
  all_member P (y ∷ ys) x a (inr i) = all_member P ys x a.1 i

  pub all_members : (P : X → Type 0) (xs : List X) → ((x : X) → x ∈ xs → P x) → AllByRecursion P xs
  all_members P [] h = tt
  all_members P (y ∷ ys) h = (h y (inl refl), all_members P ys (λ x i. h x (inr i)))

  pub all_both : (P Q : X → Type 0) (xs : List X) → AllByRecursion P xs → AllByRecursion Q xs → AllByRecursion (λ x. P x × Q x) xs
  all_both P Q [] a b = tt
  all_both P Q (x ∷ xs) a b = ((a.0, b.0), all_both P Q xs a.1 b.1)

  pub all_left : (P : X → Type 0) (xs ys : List X) → AllByRecursion P (xs ++ ys) → AllByRecursion P xs
  all_left P [] ys a = tt
  all_left P (x ∷ xs) ys a = (a.0, all_left P xs ys a.1)

  pub all_right : (P : X → Type 0) (xs ys : List X) → AllByRecursion P (xs ++ ys) → AllByRecursion P ys
  all_right P [] ys a = a
  all_right P (x ∷ xs) ys a = all_right P xs ys a.1

  pub in_left : (xs ys : List X) (x : X) → x ∈ xs → x ∈ (xs ++ ys)
  in_left [] ys x i = elim i [ ]
  in_left (z ∷ xs) ys x (inl e) = inl e
  in_left (z ∷ xs) ys x (inr i) = inr (in_left xs ys x i)

  pub in_right : (xs ys : List X) (x : X) → x ∈ ys → x ∈ (xs ++ ys)
  in_right [] ys x i = i
  in_right (z ∷ xs) ys x i = inr (in_right xs ys x i)

  pub in_either : (xs ys : List X) (x : X) → x ∈ (xs ++ ys) → (x ∈ xs) ⊎ (x ∈ ys)
  in_either [] ys x i = inr i
  in_either (z ∷ xs) ys x (inl e) = inl (inl e)
  in_either (z ∷ xs) ys x (inr i) = elim (in_either xs ys x i) [ inl j ↦ inl (inr j) | inr j ↦ inr j ]

  pub kept_member : (p : X → Bool) (xs : List X) (x : X) → p x ≡ true → x ∈ xs → x ∈ filter p xs
  kept_member p [] x h i = elim i [ ]
  kept_member p (y ∷ ys) x h (inl e) = rw (rw e at h) (inl e)
  kept_member p (y ∷ ys) x h (inr i) =
      cond_both (p y) (y ∷ filter p ys) (filter p ys) (λ l. x ∈ l) (λ _. inr (kept_member p ys x h i)) (λ _. kept_member p ys x h i)

  pub member_kept : (p : X → Bool) (xs : List X) (x : X) → x ∈ filter p xs → (x ∈ xs) × (p x ≡ true)
  member_kept p xs x i = (
    all_member (λ y. y ∈ xs) (filter p xs) x (all_kept_by p (λ y. y ∈ xs) xs (all_members (λ y. y ∈ xs) xs (λ y j. j))) i,
    all_member _ _ x (kept_by_passes p xs) i,
  )

  pub kept_nothing : (p : X → Bool) (xs : List X) → AllByRecursion (λ x. p x ≡ false) xs → filter p xs ≡ []
  kept_nothing p [] a = refl
  kept_nothing p (x ∷ xs) a = rw a.0 (kept_nothing p xs a.1)

  pub kept_whole : (p : X → Bool) (xs : List X) → AllByRecursion (λ x. p x ≡ true) xs → filter p xs ≡ xs
  kept_whole p [] a = refl
  kept_whole p (x ∷ xs) a = rw a.0 (ap (λ l. x ∷ l) (kept_whole p xs a.1))

  pub kept_like : (p q : X → Bool) (xs : List X) → AllByRecursion (λ x. p x ≡ q x) xs → filter p xs ≡ filter q xs
  kept_like p q [] a = refl
  kept_like p q (x ∷ xs) a = let ih = kept_like p q xs a.1 in let e = a.0 in grind arith

  -- what p transitive, q does too
  pub kept_twice : (p q : X → Bool) (xs : List X) → AllByRecursion (λ x. p x ≡ true → q x ≡ true) xs → filter p (filter q xs) ≡ filter p xs
  kept_twice p q [] a = refl
  kept_twice p q (x ∷ xs) a = let ih = kept_twice p q xs a.1 in grind (arith, a.0)

  kept_no_more : (p q : X → Bool) → ((x : X) → p x ≡ true → q x ≡ true) → (xs : List X) → length (filter p xs) ≤ length (filter q xs)
  kept_no_more p q h [] = omega arith
  kept_no_more p q h (x ∷ xs) = let ih = kept_no_more p q h xs in grind (arith, h x, ih)

  -- and fewer, if q transitive an element that p does not
  pub kept_fewer : (p q : X → Bool) → ((x : X) → p x ≡ true → q x ≡ true) → (xs : List X) (y : X) → y ∈ xs → p y ≡ false → q y ≡ true
      → length (filter p xs) < length (filter q xs)
  kept_fewer p q h [] y i f t = elim i [ ]
  kept_fewer p q h (x ∷ xs) y (inl e) f t = let l = kept_no_more p q h xs in rw (rw e at f, rw e at t) (omega (arith, l))
  kept_fewer p q h (x ∷ xs) y (inr i) f t = let ih = kept_fewer p q h xs y i f t in grind (arith, h x, ih)

  pub nth_in : (xs : List X) (k : ℕ) (x : X) → slice_get xs k ≡ Some x → x ∈ xs
  nth_in [] k x e = absurd (grind arith)
  nth_in (y ∷ ys) zero x e = inl (cc)
  nth_in (y ∷ ys) (suc k) x e = inr (nth_in ys k x e)

  -- the library's word for a member
  pub has_member : (xs : List X) (x : X) → x ∈ xs → Has xs x
  has_member [] x i = elim i [ ]
  has_member (y ∷ ys) x (inl e) = (0, omega arith, λ d. sym e)
  has_member (y ∷ ys) x (inr i) = let r = has_member ys x i in (suc r.0, omega (arith, r.1), r.2)

  pub member_has : (xs : List X) (x : X) → Has xs x → x ∈ xs
  member_has xs x h = at xs h.0 h.1 h.2
    where
      at : (xs : List X) (k : ℕ) → k < length xs → ((d : X) → get_or xs k d ≡ x) → x ∈ xs
      at [] k l e = absurd (omega arith)
      at (y ∷ ys) zero l e = inl (sym (e x))
      at (y ∷ ys) (suc k) l e = inr (at ys k (omega arith) e)

  module _ (R : X → X → Type 0) where
    pub rises_kept : (p : X → Bool) (xs : List X) → Rising R xs → Rising R (filter p xs)
    rises_kept p [] h = tt
    rises_kept p (x ∷ xs) h =
        cond_both (p x) (x ∷ filter p xs) (filter p xs) (Rising R)
        (λ _. (all_kept_by p (R x) xs h.0, rises_kept p xs h.1)) (λ _. rises_kept p xs h.1)

    pub rises_joined : (xs ys : List X) → Rising R xs → Rising R ys → AllByRecursion (λ x. AllByRecursion (R x) ys) xs → Rising R (xs ++ ys)
    rises_joined [] ys g h a = h
    rises_joined (x ∷ xs) ys g h a = (All-append (R x) xs ys g.0 a.0, rises_joined xs ys g.1 h a.1)

    pub rises_right : (xs ys : List X) → Rising R (xs ++ ys) → Rising R ys
    rises_right [] ys h = h
    rises_right (x ∷ xs) ys h = rises_right xs ys h.1

    pub rises_across : (xs ys : List X) → Rising R (xs ++ ys) → (x y : X) → x ∈ xs → y ∈ ys → R x y
    rises_across [] ys h x y i j = elim i [ ]
    rises_across (z ∷ xs) ys h x y (inl e) j = rw e (all_member (R z) (xs ++ ys) y h.0 (in_right xs ys y j))
    rises_across (z ∷ xs) ys h x y (inr i) j = rises_across xs ys h.1 x y i j

    pub rises_cases : (xs : List X) → Rising R xs → (y z : X) → y ∈ xs → z ∈ xs → (y ≡ z) ⊎ (R y z ⊎ R z y)
    rises_cases [] r y z i j = elim i [ ]
    rises_cases (x ∷ xs) r y z (inl p) (inl q) = inl (p ∙ sym q)
    rises_cases (x ∷ xs) r y z (inl p) (inr j) = inr (inl (rw p (all_member (R x) xs z r.0 j)))
    rises_cases (x ∷ xs) r y z (inr i) (inl q) = inr (inr (rw q (all_member (R x) xs y r.0 i)))
    rises_cases (x ∷ xs) r y z (inr i) (inr j) = rises_cases xs r.1 y z i j

    -- a rising list has no other order
    module _ (irreflexive : (x : X) → R x x → ⊥) (transitive : (x y z : X) → R x y → R y z → R x z) where
      same_head : (x y : X) (xs ys : List X) → AllByRecursion (R x) xs → AllByRecursion (R y) ys → x ∈ (y ∷ ys) → y ∈ (x ∷ xs) → x ≡ y
      same_head x y xs ys a b (inl e) j = e
      same_head x y xs ys a b (inr i) (inl f) = sym f
      same_head x y xs ys a b (inr i) (inr j) = absurd (irreflexive x (transitive x y x (all_member (R x) xs y a j) (all_member (R y) ys x b i)))

      same_tail : (x : X) (xs ys : List X) → AllByRecursion (R x) xs → ((z : X) → z ∈ (x ∷ xs) → z ∈ (x ∷ ys)) → (z : X) → z ∈ xs → z ∈ ys
      same_tail x xs ys a h z i = elim (h z (inr i)) [ inl e ↦ absurd (irreflexive x (rw e at (all_member (R x) xs z a i))) | inr j ↦ j ]

      pub members_decide : (xs ys : List X) → Rising R xs → Rising R ys → ((x : X) → x ∈ xs ↔ x ∈ ys) → xs ≡ ys
      members_decide [] [] g h m = refl
      members_decide [] (y ∷ ys) g h m = absurd ((m y).1 (inl refl))
      members_decide (x ∷ xs) [] g h m = absurd ((m x).0 (inl refl))
      members_decide (x ∷ xs) (y ∷ ys) g h m =
          let e = same_head x y xs ys g.0 h.0 ((m x).0 (inl refl)) ((m y).1 (inl refl)) in
          ap₂ ◌∷◌ e (members_decide xs ys g.1 h.1 (λ z. (
            same_tail x xs ys g.0 (λ w i. rw e ((m w).0 i)) z,
            same_tail y ys xs h.0 (λ w i. rw (← e) ((m w).1 i)) z,
          )))

  pub rises_weaker : (R S : X → X → Type 0) → ((x y : X) → R x y → S x y) → (xs : List X) → Rising R xs → Rising S xs
  rises_weaker R S h [] a = tt
  rises_weaker R S h (x ∷ xs) a = (All-weaker (R x) (S x) (h x) xs a.0, rises_weaker R S h xs a.1)

pub map_member : {X Y : Type 0} (f : X → Y) (xs : List X) (x : X) → x ∈ xs → f x ∈ map f xs
map_member f [] x i = i
map_member f (y ∷ xs) x (inl e) = inl (ap f e)
map_member f (y ∷ xs) x (inr i) = inr (map_member f xs x i)

pub member_map : {X Y : Type 0} (f : X → Y) (xs : List X) (y : Y) → y ∈ map f xs → (x : X) × (x ∈ xs) × (y ≡ f x)
member_map f [] y i = elim i [ ]
member_map f (x ∷ xs) y (inl e) = (x, inl refl, e)
member_map f (x ∷ xs) y (inr i) = let r = member_map f xs y i in (r.0, inr r.1, r.2)

pub in_joined : {X Y : Type 0} (f : X → List Y) (xs : List X) (x : X) (y : Y) → x ∈ xs → y ∈ f x → y ∈ flat_map f xs
in_joined f [] x y i j = elim i [ ]
in_joined f (z ∷ xs) x y (inl e) j = in_left (f z) (flat_map f xs) y (rw e at j)
in_joined f (z ∷ xs) x y (inr i) j = in_right (f z) (flat_map f xs) y (in_joined f xs x y i j)

pub from_joined : {X Y : Type 0} (f : X → List Y) (xs : List X) (y : Y) → y ∈ flat_map f xs → (x : X) × (x ∈ xs) × (y ∈ f x)
from_joined f [] y i = elim i [ ]
from_joined f (x ∷ xs) y i = elim (in_either (f x) (flat_map f xs) y i) [
  | inl j ↦ (x, inl refl, j)
  | inr j ↦ let r = from_joined f xs y j in (r.0, inr r.1, r.2)
]

-- Names that are one, lists that have a name, and attachments that are one.
use Rattle.std.proofs.Common.{◌≡◌, Bool, true, false, ◌||◌, ◌⊎◌, List, [], ◌∷◌, ◌++◌, sym, refl, ap, inl, inr, arith}
use Rattle.std.proofs.lemmas.Bool.{or_cases, or_left, or_right, cases_Bool, both_ways}
use Rattle.std.proofs.lemmas.Bool.{false_from_ne_true}
use Rattle.std.proofs.lemmas.Bool.Decides.{nat_tests}
use Rattle.events.specs.declared.name.Name.{Name}
use Rattle.events.specs.Same.{name_is}
use Rattle.fugue.specs.Names.{◌∈◌, same, has, Ordered}
use Rattle.fugue.specs.Tree.{Attachment, root, left_of, right_of, same_attachment}

pub same_name : (a b : Name) → same a b ≡ true → a ≡ b
same_name a b h = name_is (grind (arith, nat_tests, h)) (grind (arith, nat_tests, h))

pub same_own : (a : Name) → same a a ≡ true
same_own a = grind (arith, nat_tests)

pub same_not : (a b : Name) → (a ≡ b → ⊥) → same a b ≡ false
same_not a b h = false_from_ne_true (same a b) (λ e. h (same_name a b e))

pub has_in : (xs : List Name) (x : Name) → has xs x ≡ true → x ∈ xs
has_in [] x h = absurd (both_ways false refl h)
has_in (y ∷ ys) x h = elim (or_cases _ _ h) [ inl e ↦ inl (sym (same_name y x e)) | inr e ↦ inr (has_in ys x e) ]

pub in_has : (xs : List Name) (x : Name) → x ∈ xs → has xs x ≡ true
in_has [] x i = elim i [ ]
in_has (y ∷ ys) x (inl e) = or_left (same y x) (has ys x) (rw e (same_own y))
in_has (y ∷ ys) x (inr i) = or_right _ _ (in_has ys x i)

pub has_append : (xs ys : List Name) (x : Name) → has (xs ++ ys) x ≡ (has xs x || has ys x)
has_append [] ys x = refl
has_append (z ∷ xs) ys x = let ih = has_append xs ys x in grind arith

pub bools_same : (a b : Bool) → (a ≡ true → b ≡ true) → (b ≡ true → a ≡ true) → a ≡ b
bools_same a b g h = grind arith

pub has_alike : (xs ys : List Name) → ((x : Name) → x ∈ xs → x ∈ ys) → ((x : Name) → x ∈ ys → x ∈ xs) → (x : Name) → has xs x ≡ has ys x
has_alike xs ys g h x =
    bools_same (has xs x) (has ys x) (λ e. in_has ys x (g x (has_in xs x e))) (λ e. in_has xs x (h x (has_in ys x e)))

pub attachment_is : (p q : Attachment) → same_attachment p q ≡ true → p ≡ q
attachment_is root q h = grind arith
attachment_is (left_of a) root h = grind arith
attachment_is (left_of a) (left_of b) h = ap left_of (same_name a b h)
attachment_is (left_of a) (right_of b) h = grind arith
attachment_is (right_of a) root h = grind arith
attachment_is (right_of a) (left_of b) h = grind arith
attachment_is (right_of a) (right_of b) h = ap right_of (same_name a b h)

pub attachment_refl : (p : Attachment) → same_attachment p p ≡ true
attachment_refl p = grind (arith, same_own)

-- of two names one comes first, or they are one
pub order_cases : (before : Name → Name → Bool) → Ordered before → (a b : Name) → (before a b ≡ true) ⊎ ((a ≡ b) ⊎ (before b a ≡ true))
order_cases before o a b = elim (cases_Bool (same a b)) [
  | inl e ↦ inr (inl (same_name a b e))
  | inr e ↦ let t = o.total a b (λ q. both_ways _ e (rw q (same_own b))) in grind arith
]

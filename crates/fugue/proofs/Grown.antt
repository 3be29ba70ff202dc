-- Trees that grew node by node: their names, ages of nodes, and closed parts.
use Rattle.std.proofs.Common.{◌≡◌, ℕ, ◌<◌, Bool, true, false, cond, ◌||◌, [], ◌∷◌, ◌++◌, length, refl, inl, inr, arith}
use Rattle.std.specs.List.{AllByRecursion}
use Rattle.std.proofs.lemmas.Bool.{both_ways, cond_both, or_right, or_left, or_cases, cases_Bool}
use Rattle.std.proofs.ByRecursion.{all_kept_by, All-weaker, kept_by_passes}
use Rattle.std.proofs.lemmas.Bool.{false_from_ne_true}
use Rattle.events.specs.declared.name.Name.{Name}
use Rattle.fugue.specs.Names.{◌∈◌, same}
pub use Rattle.fugue.specs.Tree.{has_node, ClosedPart}
use Rattle.fugue.specs.Tree.{Attachment, root, left_of, right_of, same_attachment, Node, Tree, children, only, AttachedTo, Grown}
use Rattle.fugue.proofs.Lists.{all_member, all_both}
use Rattle.fugue.proofs.Names.{attachment_is, same_name, same_own}
use Rattle.fugue.proofs.Sorted.{Apart, all_sorted}

pub has_own : (t : Tree) → AllByRecursion (λ n. has_node t n.name ≡ true) t
has_own [] = tt
has_own (n ∷ older) = (or_left _ _ (same_own n.name), All-weaker _ _ (λ m. or_right _ _) older (has_own older))

pub node_in : (t : Tree) (n : Node) → n ∈ t → has_node t n.name ≡ true
node_in t n i = all_member _ t n (has_own t) i

pub node_of_lem : (t : Tree) (x : Name) → has_node t x ≡ true → (n : Node) × (n ∈ t) × (n.name ≡ x)
node_of_lem [] x h = absurd (both_ways false refl h)
node_of_lem (n ∷ older) x h = elim (or_cases _ _ h) [
  | inl e ↦ (n, inl refl, same_name n.name x e)
  | inr e ↦ let r = node_of_lem older x e in (r.0, inr r.1, r.2)
]

pub named_sub : (a b : Tree) → ((n : Node) → n ∈ a → n ∈ b) → (y : Name) → has_node a y ≡ true → has_node b y ≡ true
named_sub a b f y h = let r = node_of_lem a y h in rw r.2 at (node_in b r.0 (f r.0 r.1))

pub has_node_append : (s t : Tree) (x : Name) → has_node (s ++ t) x ≡ (has_node s x || has_node t x)
has_node_append [] t x = refl
has_node_append (n ∷ s) t x = let ih = has_node_append s t x in grind arith

-- a name that is new differs from all that a tree has
module _ (n : Node) (t : Tree) (f : has_node t n.name ≡ false) where
  pub other_name : (x : Name) → has_node t x ≡ true → same n.name x ≡ false
  other_name x h = false_from_ne_true (same n.name x) (λ e. both_ways _ f (rw (same_name n.name x e) h))

pub names_apart : (t : Tree) → Grown t → Apart t
names_apart [] g = tt
names_apart (n ∷ older) g =
    (All-weaker _ _ (λ m h e. both_ways _ g.0 (rw e h)) older (has_own older), names_apart older g.2)

pub all_children : (before : Name → Name → Bool) (P : Node → Type 0) (t : Tree) (q : Attachment) → AllByRecursion P t
    → AllByRecursion (λ n. P n × (n.attachment ≡ q)) (children before t q)
unfolding children
all_children before P t q a =
    all_sorted before _ _ (all_both _ _ _ (all_kept_by _ _ t a)
    (All-weaker _ _ (λ n. attachment_is n.attachment q) _ (kept_by_passes (λ n. same_attachment n.attachment q) t)))

pub attached_like : (p q : Name → Bool) → ((x : Name) → p x ≡ true → q x ≡ true) → (w : Attachment) → AttachedTo p w → AttachedTo q w
attached_like p q h root a = tt
attached_like p q h (left_of x) a = h x a
attached_like p q h (right_of x) a = h x a

-- every node is attached inside the tree
pub inside : (t : Tree) → Grown t → AllByRecursion (λ n. (has_node t n.name ≡ true) × AttachedTo (has_node t) n.attachment) t
inside [] g = tt
inside (n ∷ older) g = (
  (or_left _ _ (same_own n.name), attached_like _ _ (λ x. or_right _ _) n.attachment g.1),
  All-weaker _ _ (λ m h. (or_right _ _ h.0, attached_like _ _ (λ x. or_right _ _) m.attachment h.1)) older (inside older g.2),
)

-- how many nodes are older than the one of a name
pub age : Tree → Name → ℕ
age [] x = 0
age (n ∷ older) x = cond (same n.name x) (length older) (age older x)

pub age_below : (t : Tree) (x : Name) → has_node t x ≡ true → age t x < length t
unfolding age
age_below [] x h = absurd (both_ways false refl h)
age_below (n ∷ older) x h = let ih = age_below older x in grind (arith, ih)

age_older : (n : Node) (older : Tree) (x : Name) → has_node older n.name ≡ false → has_node older x ≡ true → age (n ∷ older) x ≡ age older x
unfolding age
age_older n older x f h = rw (other_name n older f x h)

age_own : (n : Node) (older : Tree) → age (n ∷ older) n.name ≡ length older
unfolding age
age_own n older = rw (same_own n.name)

-- attached to the root or to something older
abbrev pub OnOlder : (Name → ℕ) → Attachment → ℕ → Type 0
OnOlder age root k = Unit {0}
OnOlder age (left_of x) k = age x < k
OnOlder age (right_of x) k = age x < k

abbrev pub Aged : ℕ → (Name → ℕ) → Node → Type 0
Aged size age n = (age n.name < size) × OnOlder age n.attachment (age n.name)

on_like : (r s : Name → ℕ) (p : Name → Bool) → ((x : Name) → p x ≡ true → s x ≡ r x) → (w : Attachment) (j k : ℕ) → AttachedTo p w → k ≡ j
    → OnOlder r w j → OnOlder s w k
on_like r s p h root j k a e u = tt
on_like r s p h (left_of x) j k a e u = let f = h x a in omega (arith, f)
on_like r s p h (right_of x) j k a e u = let f = h x a in omega (arith, f)

on_new : (t : Tree) (s : Name → ℕ) → ((x : Name) → has_node t x ≡ true → s x ≡ age t x) → (w : Attachment) (k : ℕ) → k ≡ length t
    → AttachedTo (has_node t) w → OnOlder s w k
on_new t s h root k e a = tt
on_new t s h (left_of x) k e a = let f = h x a in let l = age_below t x a in omega (arith, f, l)
on_new t s h (right_of x) k e a = let f = h x a in let l = age_below t x a in omega (arith, f, l)

pub aged : (t : Tree) → Grown t → AllByRecursion (Aged (length t) (age t)) t
aged [] g = tt
aged (n ∷ older) g = (
  (omega (arith, age_own n older), on_new older (age (n ∷ older)) (λ x. age_older n older x g.0) n.attachment _ (age_own n older) g.1),
  All-weaker _ _ (λ m h. (
    omega (arith, age_older n older m.name g.0 h.0.0, h.1.0),
    on_like (age older) (age (n ∷ older)) (has_node older) (λ x. age_older n older x g.0) m.attachment _ _ h.0.1
        (age_older n older m.name g.0 h.0.0) h.1.1,
  ))
      older (all_both _ _ older (inside older g.2) (aged older g.2)),
)

pub has_only : (p : Name → Bool) (t : Tree) (x : Name) → has_node t x ≡ true → p x ≡ true → has_node (only p t) x ≡ true
has_only p [] x h g = h
has_only p (n ∷ older) x h g = let ih = has_only p older x in grind (arith, ih, same_name n.name x)

pub only_has : (p : Name → Bool) (t : Tree) (x : Name) → has_node (only p t) x ≡ true → (has_node t x ≡ true) × (p x ≡ true)
only_has p [] x h = absurd (both_ways false refl h)
only_has p (n ∷ older) x h =
    let ih = only_has p older x in
    elim (cases_Bool (p n.name)) [
      | inl e ↦ elim (or_cases _ _ (rw e at h)) [
        | inl f ↦ (or_left _ _ f, rw (same_name n.name x f) at e)
        | inr f ↦ let r = ih f in (or_right _ _ r.0, r.1)
      ]
      | inr e ↦ let r = ih (rw e at h) in (or_right _ _ r.0, r.1)
    ]

lacks_only : (p : Name → Bool) (t : Tree) (x : Name) → has_node t x ≡ false → has_node (only p t) x ≡ false
lacks_only p t x h = false_from_ne_true (has_node (only p t) x) (λ e. both_ways _ h (only_has p t x e).0)

attached_only : (p : Name → Bool) (t : Tree) (w : Attachment) → AttachedTo (has_node t) w → AttachedTo p w → AttachedTo (has_node (only p t)) w
attached_only p t root h g = tt
attached_only p t (left_of x) h g = has_only p t x h g
attached_only p t (right_of x) h g = has_only p t x h g

pub grown_only : (p : Name → Bool) (t : Tree) → Grown t → ClosedPart p t → Grown (only p t)
grown_only p [] g c = tt
grown_only p (n ∷ older) g c =
    cond_both (p n.name) (n ∷ only p older) (only p older) Grown
    (λ e. (lacks_only p older n.name g.0, attached_only p older n.attachment g.1 (c.0 e), grown_only p older g.2 c.1))
    (λ e. grown_only p older g.2 c.1)

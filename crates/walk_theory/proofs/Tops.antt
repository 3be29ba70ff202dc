-- A node's order beside a new node goes by its top.
use Rattle.std.proofs.Common.{◌≡◌, Bool, true, false, cond, ◌⊎◌, List, [], ◌∷◌, ◌++◌, length, Some, None, Option, sym, refl, ap, ◌∙◌, inl, inr, append_assoc, arith, length-append}
use Rattle.std.specs.List.{AllByRecursion}
use Rattle.std.proofs.lemmas.Bool.{both_ways, cases_Bool}
use Rattle.std.proofs.lemmas.List.{same_from_push}
use Rattle.std.proofs.ByRecursion.{All-weaker}
use Rattle.std.proofs.lemmas.Option.{none-some, same_Some}
use Rattle.events.specs.declared.name.Name.{Name}
use Rattle.fugue.proofs.Grown.{inside}
use Rattle.fugue.specs.Names.{Ordered, ◌∈◌}
use Rattle.fugue.specs.Paths.{Step, left, end, right, steps_to, steps, path, path_before}
use Rattle.fugue.specs.Tree.{Attachment, root, left_of, right_of, same_attachment, Node, Tree, AttachedTo, has_node, Grown}
use Rattle.fugue.proofs.Grown.{has_own, other_name, node_of_lem}
use Rattle.fugue.proofs.Lists.{all_member, all_both}
use Rattle.fugue.proofs.Names.{same_own, attachment_is, attachment_refl}
use Rattle.fugue.proofs.Paths.{stepped, one_path}
use Rattle.walk_theory.specs.Tops.{by_owner, top_at, beside_owner, comes_before}
use Rattle.walk_theory.proofs.Along.{Hangs, along}
use Rattle.walk_theory.proofs.Forks.{Ended, alike, by_name, beside_left, beside_right}

-- the steps to a place, and the step from there
abbrev pub base : (Name → List Step) → Attachment → List Step
base w root = []
base w (left_of y) = w y
base w (right_of y) = w y

abbrev pub side : Attachment → Name → Step
side root x = right x
side (left_of y) x = left x
side (right_of y) x = right x

steps_are : (w : Name → List Step) (q : Attachment) (x : Name) → steps_to w q x ≡ base w q ++ side q x ∷ []
steps_are w root x = refl
steps_are w (left_of y) x = refl
steps_are w (right_of y) x = refl

-- what `top_at` says of each node, by the whole tree
pub top_older : (n : Node) (older : Tree) (q : Attachment) → has_node older n.name ≡ false → (x : Name) → has_node older x ≡ true → top_at (n ∷ older) q x ≡ top_at older q x
unfolding top_at
top_older n older q f x h = rw (other_name n older f x h)

by_owner_older : (n : Node) (older : Tree) (q : Attachment) → has_node older n.name ≡ false → (p : Attachment) → AttachedTo (has_node older) p
    → by_owner (top_at older q) p ≡ by_owner (top_at (n ∷ older) q) p
by_owner_older n older q f root h = refl
by_owner_older n older q f (left_of y) h = sym (top_older n older q f y h)
by_owner_older n older q f (right_of y) h = sym (top_older n older q f y h)

abbrev pub TopStep : Tree → Attachment → Node → Type 0
TopStep t q n = top_at t q n.name ≡ cond (same_attachment n.attachment q) (Some n.name) (by_owner (top_at t q) n.attachment)

pub top_own : (n : Node) (older : Tree) (q : Attachment) → top_at (n ∷ older) q n.name ≡ cond (same_attachment n.attachment q) (Some n.name) (by_owner (top_at older q) n.attachment)
unfolding top_at
top_own n older q = rw (same_own n.name)

pub tops : (t : Tree) (q : Attachment) → Grown t → AllByRecursion (TopStep t q) t
tops [] q g = tt
tops (n ∷ older) q g = (
  top_own n older q ∙ ap (λ z. cond (same_attachment n.attachment q) (Some n.name) z) (by_owner_older n older q g.0 n.attachment g.1),
  All-weaker _ _ (λ m h. top_older n older q g.0 m.name h.0.0 ∙ h.1 ∙ ap (λ z. cond (same_attachment m.attachment q) (Some m.name) z) (by_owner_older n older q g.0 m.attachment h.0.1)) older
      (all_both _ _ older (inside older g.2) (tops older q g.2)),
)

module _ (t : Tree) (g : Grown t) (q : Attachment) where
  abbrev w : Name → List Step
  w = steps t

  -- the path of a node with a top goes by the place
  abbrev Through : Name → Type 0
  Through y = (x : Name) → top_at t q y ≡ Some x → (r : List Step) × (w y ≡ base w q ++ side q x ∷ r)

  through_below : (n : Node) (p : Attachment) (x : Name) → w n.name ≡ steps_to w p n.name → Hangs Through p → by_owner (top_at t q) p ≡ Some x
      → (r : List Step) × (w n.name ≡ base w q ++ side q x ∷ r)
  through_below n root x e h s = absurd (none-some x s)
  through_below n (left_of y) x e h s =
      let i = h x s in (i.0 ++ left n.name ∷ [], e ∙ ap (λ z. z ++ left n.name ∷ []) i.1 ∙ append_assoc (base w q) (side q x ∷ i.0) (left n.name ∷ []))
  through_below n (right_of y) x e h s =
      let i = h x s in (i.0 ++ right n.name ∷ [], e ∙ ap (λ z. z ++ right n.name ∷ []) i.1 ∙ append_assoc (base w q) (side q x ∷ i.0) (right n.name ∷ []))

  through_step : (n : Node) → n ∈ t → Hangs Through n.attachment → Through n.name
  through_step n i h x s =
      let d = all_member _ t n (tops t q g) i in
      let e = all_member _ t n (stepped t g) i in
      elim (cases_Bool (same_attachment n.attachment q)) [
        | inl f ↦
            let k : n.name ≡ x = same_Some n.name x (sym (rw f at d) ∙ s) in
            ([], e ∙ steps_are w n.attachment n.name ∙ (λ j. base w (attachment_is n.attachment q f j) ++ side (attachment_is n.attachment q f j) (k j) ∷ []))
        | inr f ↦ through_below n n.attachment x e h (sym (rw f at d) ∙ s)
      ]

  pub through : (y : Name) → has_node t y ≡ true → Through y
  through = along Through t through_step g

  -- a top hangs at the place
  abbrev Found : Name → Type 0
  Found y = (x : Name) → top_at t q y ≡ Some x → (m : Node) × (m ∈ t) × (m.name ≡ x) × (m.attachment ≡ q)

  found_below : (p : Attachment) (x : Name) → Hangs Found p → by_owner (top_at t q) p ≡ Some x → (m : Node) × (m ∈ t) × (m.name ≡ x) × (m.attachment ≡ q)
  found_below root x h s = absurd (none-some x s)
  found_below (left_of y) x h s = h x s
  found_below (right_of y) x h s = h x s

  found_step : (n : Node) → n ∈ t → Hangs Found n.attachment → Found n.name
  found_step n i h x s =
      let d = all_member _ t n (tops t q g) i in
      elim (cases_Bool (same_attachment n.attachment q)) [
        | inl f ↦ (n, i, same_Some n.name x (sym (rw f at d) ∙ s), attachment_is n.attachment q f)
        | inr f ↦ found_below n.attachment x h (sym (rw f at d) ∙ s)
      ]

  pub found : (y : Name) → has_node t y ≡ true → Found y
  found = along Found t found_step g

-- a path ends
module _ (t : Tree) (g : Grown t) where
  abbrev Ends : Name → Type 0
  Ends y = (p : List Step) → Ended p → Ended (steps t y ++ p)

  ends_at : (q : Attachment) (x : Name) → Hangs Ends q → (p : List Step) → Ended p → Ended (steps_to (steps t) q x ++ p)
  ends_at root x h p e = e
  ends_at (left_of y) x h p e = rw (append_assoc (steps t y) (left x ∷ []) p) (h (left x ∷ p) e)
  ends_at (right_of y) x h p e = rw (append_assoc (steps t y) (right x ∷ []) p) (h (right x ∷ p) e)

  pub ends : (y : Name) → has_node t y ≡ true → Ends y
  ends = along Ends t (λ n i h p e. rw (all_member _ t n (stepped t g) i) (ends_at n.attachment n.name h p e)) g

  abbrev Longer : Name → Type 0
  Longer y = steps t y ≡ [] → ⊥

  long_at : (q : Attachment) (x : Name) → steps_to (steps t) q x ≡ [] → ⊥
  long_at q x h = omega (arith, simp length-append at (ap length (sym (steps_are (steps t) q x) ∙ h)))

  long : (y : Name) → has_node t y ≡ true → Longer y
  long = along Longer t (λ n i _ h. long_at n.attachment n.name (sym (all_member _ t n (stepped t g) i) ∙ h)) g

snoc : (r : List Step) → (r ≡ []) ⊎ ((s : List Step) × (a : Step) × (r ≡ s ++ a ∷ []))
snoc [] = inl refl
snoc (b ∷ r) = elim (snoc r) [ inl e ↦ inr ([], b, ap (λ z. b ∷ z) e) | inr h ↦ inr (b ∷ h.0, h.1, ap (λ z. b ∷ z) h.2) ]

-- where two lists end in a step each, one of them behind some steps
cut_last : (u v r : List Step) (a b : Step) → u ++ a ∷ [] ≡ v ++ b ∷ r
    → ((u ≡ v) × (a ≡ b)) ⊎ ((s : List Step) × (u ≡ v ++ b ∷ s))
cut_last u v r a b h = elim (snoc r) [
  | inl e ↦ inl (same_from_push u v a b (rw e at h))
  | inr k ↦ inr (k.0, (same_from_push u (v ++ b ∷ k.0) a k.1 (h ∙ rw k.2 (sym (append_assoc v (b ∷ k.0) (k.1 ∷ []))))).0)
]

module _ (before : Name → Name → Bool) (o : Ordered before) (t : Tree) (g : Grown t) where
  way_is : (y z : Name) → has_node t y ≡ true → has_node t z ≡ true → steps t y ≡ steps t z → y ≡ z
  unfolding path
  way_is y z h k e =
      let a = node_of_lem t y h in
      let b = node_of_lem t z k in
      let f = one_path before o t g a.0 b.0 a.1 b.1 (rw (a.2, b.2) (ap (λ v. v ++ end ∷ []) e)) in
      sym a.2 ∙ ap (λ m. m.name) f ∙ b.2

  place_by : (p q : Attachment) (x y : Name) → AttachedTo (has_node t) p → AttachedTo (has_node t) q → base (steps t) p ≡ base (steps t) q → side p x ≡ side q y → p ≡ q
  place_by root root x y h k e f = refl
  place_by root (left_of b) x y h k e f = absurd (grind arith)
  place_by root (right_of b) x y h k e f = absurd (long t g b k (sym e))
  place_by (left_of a) root x y h k e f = absurd (grind arith)
  place_by (left_of a) (left_of b) x y h k e f = ap left_of (way_is a b h k e)
  place_by (left_of a) (right_of b) x y h k e f = absurd (grind arith)
  place_by (right_of a) root x y h k e f = absurd (long t g a h e)
  place_by (right_of a) (left_of b) x y h k e f = absurd (grind arith)
  place_by (right_of a) (right_of b) x y h k e f = ap right_of (way_is a b h k e)

  module _ (q : Attachment) (rq : AttachedTo (has_node t) q) where
    -- the path of a node with no top does not go by the place
    abbrev Past : Name → Type 0
    Past y = top_at t q y ≡ None → (x : Name) (r : List Step) → steps t y ≡ base (steps t) q ++ side q x ∷ r → ⊥

    past_below : (p : Attachment) (x : Name) (s : List Step) → Hangs Past p → by_owner (top_at t q) p ≡ None → base (steps t) p ≡ base (steps t) q ++ side q x ∷ s → ⊥
    past_below root x s h d e = omega (arith, simp length-append at (ap length e))
    past_below (left_of y) x s h d e = h d x s e
    past_below (right_of y) x s h d e = h d x s e

    past_step : (n : Node) → n ∈ t → Hangs Past n.attachment → Past n.name
    past_step n i h s x r e =
        let d = all_member _ t n (tops t q g) i in
        let f = sym (steps_are (steps t) n.attachment n.name) ∙ sym (all_member _ t n (stepped t g) i) ∙ e in
        elim (cases_Bool (same_attachment n.attachment q)) [
          | inl k ↦ none-some n.name (sym s ∙ rw k at d)
          | inr k ↦ elim (cut_last (base (steps t) n.attachment) (base (steps t) q) r (side n.attachment n.name) (side q x) f) [
            | inl j ↦ both_ways _ k (rw (place_by n.attachment q n.name x (all_member _ t n (inside t g) i).1 rq j.0 j.1) (attachment_refl q))
            | inr j ↦ past_below n.attachment x j.0 h (sym (rw k at d) ∙ s) j.1
          ]
        ]

    pub after : (y : Name) → has_node t y ≡ true → Past y
    after = along Past t past_step g

  -- with its end
  not_by : (q : Attachment) → AttachedTo (has_node t) q → (y : Name) → has_node t y ≡ true → top_at t q y ≡ None → (x : Name) (r : List Step) → path t y ≡ base (steps t) q ++ side q x ∷ r → ⊥
  unfolding path
  not_by q rq y h s x r e = elim (cut_last (steps t y) (base (steps t) q) r end (side q x) e) [
    | inl j ↦ no_end q x j.1
    | inr j ↦ after q rq y h s x j.0 j.1
  ]
    where
      no_end : (q : Attachment) (x : Name) → end ≡ side q x → ⊥
      no_end root x e = grind arith
      no_end (left_of y) x e = grind arith
      no_end (right_of y) x e = grind arith

  -- at the root all have a top
  abbrev Topped : Name → Type 0
  Topped y = top_at t root y ≡ None → ⊥

  topped_at : (n : Node) (p : Attachment) → top_at t root n.name ≡ cond (same_attachment p root) (Some n.name) (by_owner (top_at t root) p) → Hangs Topped p → Topped n.name
  topped_at n root d h s = none-some n.name (sym s ∙ d)
  topped_at n (left_of y) d h s = h (sym d ∙ s)
  topped_at n (right_of y) d h s = h (sym d ∙ s)

  pub topped : (y : Name) → has_node t y ≡ true → Topped y
  topped = along Topped t (λ n i. topped_at n n.attachment (all_member _ t n (tops t root g) i)) g

  -- beside a sibling's line
  by_sire : (q : Attachment) (x z : Name) (r : List Step) → (z ≡ x → ⊥)
      → path_before before ((base (steps t) q ++ side q z ∷ r) ++ end ∷ []) (steps_to (steps t) q x ++ end ∷ []) ≡ before z x
  by_sire root x z r d = by_name before o z x (r ++ end ∷ []) (end ∷ []) d
  by_sire (left_of y) x z r d =
      rw (append_assoc (steps t y) (left z ∷ r) (end ∷ []), append_assoc (steps t y) (left x ∷ []) (end ∷ []), alike before o (steps t y) (left z ∷ r ++ end ∷ []) (left x ∷ end ∷ []))
      (by_name before o z x (r ++ end ∷ []) (end ∷ []) d)
  by_sire (right_of y) x z r d =
      rw (append_assoc (steps t y) (right z ∷ r) (end ∷ []), append_assoc (steps t y) (right x ∷ []) (end ∷ []), alike before o (steps t y) (right z ∷ r ++ end ∷ []) (right x ∷ end ∷ []))
      (by_name before o z x (r ++ end ∷ []) (end ∷ []) d)

  pub beside : (q : Attachment) → AttachedTo (has_node t) q → (x y : Name) → has_node t y ≡ true → top_at t q y ≡ None
      → path_before before (path t y) (steps_to (steps t) q x ++ end ∷ []) ≡ beside_owner before t q y
  unfolding path
  beside root r x y h s = absurd (topped y h s)
  beside (left_of z) r x y h s =
      rw (append_assoc (steps t z) (left x ∷ []) (end ∷ [])) (beside_left before o (steps t z) (path t y) x (λ v p. not_by (left_of z) r y h s v p))
  beside (right_of z) r x y h s =
      rw (append_assoc (steps t z) (right x ∷ []) (end ∷ [])) (beside_right before o (steps t z) (path t y) x (ends t g y h (end ∷ []) refl) (λ v p. not_by (right_of z) r y h s v p))

  pub sides : (q : Attachment) → AttachedTo (has_node t) q → (x y : Name) → has_node t x ≡ false → has_node t y ≡ true
      → path_before before (path t y) (steps_to (steps t) q x ++ end ∷ []) ≡ comes_before before t q x y (top_at t q y)
  unfolding path
  sides q r x y f h = go (top_at t q y) refl
    where
      go : (m : Option Name) → top_at t q y ≡ m → path_before before (path t y) (steps_to (steps t) q x ++ end ∷ []) ≡ comes_before before t q x y m
      go None s = beside q r x y h s
      go (Some z) s =
          let i = through t g q y h z s in
          let j = found t g q y h z s in
          rw i.1 (by_sire q x z i.0 (λ e. both_ways _ f (rw (← e) (rw j.2 at (all_member _ t j.0 (has_own t) j.1)))))

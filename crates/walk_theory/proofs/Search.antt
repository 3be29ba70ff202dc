-- The climb and the scan find the place that paths give.
use Rattle.std.proofs.Common.{◌≡◌, ℕ, zero, suc, ◌+◌, ◌<◌, ◌≤◌, Bool, true, false, cond, not, ◌&&◌, List, [], ◌∷◌, ◌++◌, length, take, drop, Some, None, Option, sym, refl, ap, ◌∙◌, subst, ap₂, inl, inr, append_assoc, arith}
use Rattle.std.specs.List.{prefix_len, AllByRecursion}
use Rattle.std.proofs.lemmas.Bool.{both_ways, cases_Bool, and_parts}
use Rattle.std.proofs.ByRecursion.{All-weaker}
use Rattle.events.specs.declared.name.Name.{Name}
use Rattle.events.specs.declared.character.Character.{Character}
use Rattle.fugue.proofs.Grown.{inside}
use Rattle.fugue.specs.Names.{same, Ordered, ◌∈◌, Rising}
use Rattle.fugue.specs.Paths.{Step, end, right, left, steps_to, steps, path, path_before}
use Rattle.fugue.specs.Placements.{after, attached_by}
use Rattle.fugue.specs.Tree.{Attachment, root, left_of, right_of, same_attachment, Node, Tree, children, sequence, only, AttachedTo, ClosedPart, has_node, Grown, Children}
use Rattle.fugue.proofs.Beside.{Starts}
use Rattle.fugue.proofs.Grown.{has_own, age, aged, OnOlder, age_below, grown_only, has_only, node_of_lem}
use Rattle.fugue.proofs.Leaf.{leaf}
use Rattle.fugue.proofs.Lists.{all_member, all_members, all_left, all_right, kept_like, kept_member, member_kept, in_right, rises_right, rises_across, rises_weaker, all_both}
use Rattle.fugue.proofs.Names.{same_name, same_own, attachment_is, attachment_refl, same_not}
use Rattle.fugue.proofs.Nested.{sequence_part}
use Rattle.fugue.proofs.Paths.{sequence_has, steps_older, steps_own, path_irreflexive, path_transitive, by_paths, members}
use Rattle.fugue.proofs.Sequences.{children_are, sequence_right}
use Rattle.walk_theory.specs.Origins.{Origin, behind, up_to, front, new_node}
use Rattle.walk_theory.specs.Tops.{by_owner, top_at, beside_owner, comes_before}
use Rattle.walk_theory.specs.Search.{attachment_in, until, climb, top_outside, top_precedes, top_follows, home, up, down, among, Found}
use Rattle.walk_theory.proofs.Gaps.{followed}
use Rattle.walk_theory.proofs.Along.{Hangs, along}
use Rattle.walk_theory.proofs.Forks.{alike}
use Rattle.walk_theory.proofs.Tops.{tops, found, sides}
use Rattle.walk_theory.proofs.Cuts.{rising_left, Falls, all_high, all_low, leading_front, leading_stop, leading_like, kept_take, from_end, falls_like}
use Rattle.walk_theory.proofs.Climbs.{Climbs, here, up as on, Begins, begins, nexts}

-- the nodes from the first that passes on
pub from : (Name → Bool) → List Node → List Node
from p [] = []
from p (n ∷ ns) = cond (p n.name) (n ∷ ns) (from p ns)

until_from : (p : Name → Bool) (l : List Node) → until p l ++ from p l ≡ l
unfolding from
until_from p [] = refl
until_from p (n ∷ ns) = let ih = until_from p ns in grind (arith, ih)

from_passes : (p : Name → Bool) (l : List Node) (n : Node) (ns : List Node) → from p l ≡ n ∷ ns → p n.name ≡ true
unfolding from
from_passes p [] n ns h = absurd (grind arith)
from_passes p (m ∷ l) n ns h = elim (cases_Bool (p m.name)) [
  | inl e ↦ let f : m ≡ n = cc (rw e at h) in rw f at e
  | inr e ↦ from_passes p l n ns (rw e at h)
]

pub until_none : (p : Name → Bool) (l : List Node) → AllByRecursion (λ n. p n.name ≡ false) (until p l)
until_none p [] = tt
until_none p (n ∷ ns) = let ih = until_none p ns in elim (cases_Bool (p n.name)) [ inl e ↦ rw e tt | inr e ↦ rw e (e, ih) ]

from_first : (p : Name → Bool) (l : List Node) (n : Node) (ns : List Node) → only p l ≡ n ∷ ns → (r : List Node) × (from p l ≡ n ∷ r) × (p n.name ≡ true)
unfolding from
from_first p [] n ns h = absurd (grind arith)
from_first p (m ∷ l) n ns h = elim (cases_Bool (p m.name)) [
  | inl e ↦ let f : m ≡ n = cc (rw e at h) in (l, rw (e, f), rw f at e)
  | inr e ↦ rw e (from_first p l n ns (rw e at h))
]

pub past_only : (v : Name → Bool) (y : Name) → v y ≡ true → (s : List Node) → after y (only v s) ≡ only v (after y s)
past_only v y h [] = refl
past_only v y h (n ∷ s) = let ih = past_only v y h s in let i = same_name n.name y in grind (arith, ih, i, h)

-- the parts of a list at a node
pub cut_at : (y : Name) (s : List Node) → has_node s y ≡ true → (us : List Node) × (n : Node) × (s ≡ us ++ n ∷ after y s) × (n.name ≡ y) × (up_to y s ≡ us ++ n ∷ [])
cut_at y [] h = absurd (both_ways false refl h)
cut_at y (n ∷ s) h = elim (cases_Bool (same n.name y)) [
  | inl q ↦ ([], n, rw q, same_name n.name y q, (rw q))
  | inr q ↦ let r = cut_at y s (rw q at h) in
      (n ∷ r.0, r.1, rw q (ap (λ z. n ∷ z) r.2), r.3, rw q (ap (λ z. n ∷ z) r.4))
]

pub upto_is : (y : Name) (s : List Node) → up_to y s ++ after y s ≡ s
upto_is y [] = refl
upto_is y (n ∷ s) = let ih = upto_is y s in grind (arith, ih)

pub front_is : (p : Attachment) (s : List Node) → (v : Name → Bool) → Origin v p → front p s ++ behind p s ≡ s
front_is root s v h = refl
front_is (left_of y) s v h = elim h [ ]
front_is (right_of y) s v h = upto_is y s

pub behind_only : (v : Name → Bool) (p : Attachment) → Origin v p → (s : List Node) → behind p (only v s) ≡ only v (behind p s)
behind_only v root h s = refl
behind_only v (left_of y) h s = elim h [ ]
behind_only v (right_of y) h s = past_only v y h s

pub seat_is : (s : List Node) → Rising (λ m n. m.name ≡ n.name → ⊥) s → (n : Node) → n ∈ s → attachment_in s n.name ≡ n.attachment
seat_is [] a n i = elim i [ ]
seat_is (m ∷ s) a n (inl e) = rw (e, same_own m.name)
seat_is (m ∷ s) a n (inr i) = let f = same_not m.name n.name (all_member _ s n a.0 i) in rw f (seat_is s a.1 n i)

pub under_more : (r : Name → ℕ) (p : Attachment) (k d : ℕ) → OnOlder r p k → k ≤ d → OnOlder r p d
under_more r root k d u l = tt
under_more r (left_of y) k d u l = omega arith
under_more r (right_of y) k d u l = omega arith

climbs_more : (a b : Tree) → ((m : Node) → m ∈ a → m ∈ b) → (q r : Attachment) → Climbs a q r → Climbs b q r
climbs_more a b h q r here = here
climbs_more a b h q r (on m i c) = on m (h m i) (climbs_more a b h q _ c)

pub origin_like : (v w : Name → Bool) → ((y : Name) → v y ≡ true → w y ≡ true) → (p : Attachment) → Origin v p → Origin w p
origin_like v w f root h = tt
origin_like v w f (left_of y) h = elim h [ ]
origin_like v w f (right_of y) h = f y h

pub not_left : (v : Name → Bool) (p : Attachment) → Origin v p → (y : Name) → p ≡ left_of y → ⊥
not_left v root h y e = grind arith
not_left v (left_of w) h y e = h
not_left v (right_of w) h y e = grind arith

pub as_rooted : (v : Name → Bool) (p : Attachment) → Origin v p → AttachedTo v p
as_rooted v root h = tt
as_rooted v (left_of y) h = elim h [ ]
as_rooted v (right_of y) h = h

pub first_child : (before : Name → Name → Bool) → Ordered before → (t : Tree) → Grown t → (q : Attachment) (k : Node) (ks : List Node) → children before t q ≡ k ∷ ks → (k ∈ t) × (k.attachment ≡ q)
first_child before o t g q k ks e = ((children_are before o t g q).are k).0 (rw e (inl refl))

module _ (before : Name → Name → Bool) (o : Ordered before) (t : Tree) (g : Grown t) where
  abbrev pub s : List Node
  s = sequence before t

  pub in_behind : (q : Attachment) → Origin (has_node t) q → (n : Node) → n ∈ behind q s → n ∈ t
  in_behind q h n i = (members before o t g n).0 (rw (← (front_is q s (has_node t) h)) (in_right (front q s) (behind q s) n i))

  abbrev Before : Node → Node → Type 0
  Before m n = path_before before (path t m.name) (path t n.name) ≡ true

  pub rises : Rising Before s
  rises = by_paths before o t g

  pub apart : Rising (λ m n. m.name ≡ n.name → ⊥) s
  apart = rises_weaker _ _ (λ m n h e. both_ways _ (path_irreflexive before o (path t n.name)) (rw e at h)) s rises

  pub in_t : (n : Node) → n ∈ s → n ∈ t
  in_t n = (members before o t g n).0

  pub all_named : AllByRecursion (λ n. has_node t n.name ≡ true) s
  all_named = all_members _ s (λ n i. all_member _ t n (has_own t) (in_t n i))

  seats : (n : Node) → n ∈ t → attachment_in s n.name ≡ n.attachment
  seats n i = seat_is s apart n ((members before o t g n).1 i)

  -- a node of the sequence is before all behind it
  pub passed : (y : Name) → has_node t y ≡ true → AllByRecursion (λ m. path_before before (path t y) (path t m.name) ≡ true) (after y s)
  passed y h =
      let r = cut_at y s (sequence_has before o t g y h) in
      subst (λ z. AllByRecursion (λ m. path_before before (path t z) (path t m.name) ≡ true) (after y s)) r.3 (rises_right Before r.0 (r.1 ∷ after y s) (rw r.2 at rises)).0

  pub below_right : (x y : Name) → path_before before (path t y) (steps_to (steps t) (right_of y) x ++ end ∷ []) ≡ true
  unfolding path
  below_right x y = ap (path_before before (steps t y ++ end ∷ [])) (append_assoc (steps t y) (right x ∷ []) (end ∷ [])) ∙ alike before o (steps t y) (end ∷ []) (right x ∷ end ∷ [])

  pub above_left : (x y : Name) → path_before before (path t y) (steps_to (steps t) (left_of y) x ++ end ∷ []) ≡ false
  unfolding path
  above_left x y = ap (path_before before (steps t y ++ end ∷ [])) (append_assoc (steps t y) (left x ∷ []) (end ∷ [])) ∙ alike before o (steps t y) (end ∷ []) (left x ∷ end ∷ [])

  -- what stands behind a left origin is not before a new node there
  pub beside_past : (p : Attachment) → Origin (has_node t) p → AllByRecursion (λ n. beside_owner before t p n.name ≡ false) (behind p s)
  beside_past root h = all_members _ s (λ n i. refl)
  beside_past (left_of y) h = elim h [ ]
  beside_past (right_of y) h = All-weaker _ _ (λ n k. rw k) (after y s) (passed y h)

  module _ (v : Name → Bool) (cl : ClosedPart v t) where
    -- a top of a node of the version is in the version
    abbrev Kept : Attachment → Name → Type 0
    Kept h y = v y ≡ true → (x : Name) → top_at t h y ≡ Some x → v x ≡ true

    kept_at : (h p : Attachment) (x : Name) → AttachedTo v p → Hangs (Kept h) p → by_owner (top_at t h) p ≡ Some x → v x ≡ true
    kept_at h root x r k e = absurd (grind arith)
    kept_at h (left_of y) x r k e = k r x e
    kept_at h (right_of y) x r k e = k r x e

    pub top_kept : (h : Attachment) (y : Name) → has_node t y ≡ true → Kept h y
    top_kept h = along (Kept h) t (λ n i k w x e.
        let d = all_member _ t n (tops t h g) i in
        elim (cases_Bool (same_attachment n.attachment h)) [
          | inl f ↦ let q : n.name ≡ x = cc (sym (rw f at d) ∙ e) in rw q at w
          | inr f ↦ kept_at h n.attachment x (all_member _ t n cl i w) k (sym (rw f at d) ∙ e)
        ]) g

    -- a place where the version has nothing
    module _ (h : Attachment) (bare : (m : Node) → m ∈ t → v m.name ≡ true → m.attachment ≡ h → ⊥) where
      pub no_top : (y : Name) → has_node t y ≡ true → v y ≡ true → top_at t h y ≡ None
      no_top y n w = go (top_at t h y) refl
        where
          go : (m : Option Name) → top_at t h y ≡ m → top_at t h y ≡ None
          go None e = e
          go (Some x) e =
              let r = found t g h y n x e in
              absurd (bare r.0 r.1 (rw r.2 (top_kept h y n w x e)) r.3)

      abbrev Kin : Name → Type 0
      Kin y = (d : ℕ) → age t y < d → top_outside d s v h y ≡ top_at t h y

      kin_at : (p : Attachment) (d k : ℕ) → Hangs Kin p → OnOlder (age t) p k → k ≤ d → by_owner (top_outside d s v h) p ≡ by_owner (top_at t h) p
      kin_at root d k i u l = refl
      kin_at (left_of y) d k i u l = i d (omega arith)
      kin_at (right_of y) d k i u l = i d (omega arith)

      kin_step : (n : Node) → n ∈ t → Hangs Kin n.attachment → Kin n.name
      unfolding top_outside
      kin_step n i k zero l = absurd (omega arith)
      kin_step n i k (suc d) l = elim (cases_Bool (v n.name)) [
        | inl w ↦ rw w (sym (no_top n.name (all_member _ t n (has_own t) i) w))
        | inr w ↦
            rw (w, seats n i)
            (ap (λ z. cond (same_attachment n.attachment h) (Some n.name) z) (kin_at n.attachment d (age t n.name) k (all_member _ t n (aged t g) i).1 (omega arith))
            ∙ sym (all_member _ t n (tops t h g) i))
      ]

      pub outside_is : (y : Name) → has_node t y ≡ true → Kin y
      outside_is = along Kin t kin_step g

    climb_here : (p : Attachment) → Origin v p → (d : ℕ) → climb d s p ≡ p
    unfolding climb
    climb_here p h zero = refl
    climb_here root h (suc d) = refl
    climb_here (left_of y) h (suc d) = elim h [ ]
    climb_here (right_of y) h (suc d) = refl

    climb_is : (p : Attachment) → Origin v p → (d : ℕ) (r : Attachment) → Climbs t p r → OnOlder (age t) r d → climb d s r ≡ p
    unfolding climb
    climb_is p h d r here u = climb_here p h d
    climb_is p h zero r (on m i c) u = absurd (omega arith)
    climb_is p h (suc d) r (on m i c) u =
        rw (seats m i) (climb_is p h d m.attachment c (under_more (age t) m.attachment _ d (all_member _ t m (aged t g) i).1 (omega arith)))

    abbrev Held : Attachment → Type 0
    Held p = (k : Node) × (k ∈ t) × (v k.name ≡ true) × (k.attachment ≡ p)

    -- a climb that starts in the version stays in it
    climb_held : (p : Attachment) (d : ℕ) (m : Node) (q : Attachment) → m ∈ t → v m.name ≡ true → m.attachment ≡ q → climb d s q ≡ p → Held p
    unfolding climb
    climb_held p zero m q i w e c = (m, i, w, e ∙ c)
    climb_held p (suc d) m root i w e c = (m, i, w, e ∙ c)
    climb_held p (suc d) m (right_of y) i w e c = (m, i, w, e ∙ c)
    climb_held p (suc d) m (left_of y) i w e c =
        let vy : v y ≡ true = subst (AttachedTo v) e (all_member _ t m cl i w) in
        let ny : has_node t y ≡ true = subst (AttachedTo (has_node t)) e (all_member _ t m (inside t g) i).1 in
        let r = node_of_lem t y ny in
        climb_held p d r.0 r.0.attachment r.1 (rw r.2 vy) refl (sym (ap (climb d s) (ap (attachment_in s) (sym r.2) ∙ seats r.0 r.1)) ∙ c)

    module _ (p : Attachment) (q : Origin (λ y. has_node t y && v y) p) (x : Name) (fx : has_node t x ≡ false) (d : ℕ) (deep : length t ≤ d) where
      qv : Origin v p
      qv = origin_like _ _ (λ y h. (and_parts (has_node t y) (v y) h).1) p q

      qt : Origin (has_node t) p
      qt = origin_like _ _ (λ y h. (and_parts (has_node t y) (v y) h).0) p q

      abbrev pub rest : List Node
      rest = from v (behind p s)

      abbrev pub mid : List Node
      mid = until v (behind p s)

      whole : front p s ++ (mid ++ rest) ≡ s
      whole = ap (λ z. front p s ++ z) (until_from v (behind p s)) ∙ front_is p s (has_node t) qt

      pub all_behind : (P : Node → Type 0) → AllByRecursion P s → AllByRecursion P (behind p s)
      all_behind P a = all_right P (front p s) (behind p s) (rw (← (front_is p s (has_node t) qt)) at a)

      pub all_mid : (P : Node → Type 0) → AllByRecursion P (behind p s) → AllByRecursion P mid
      all_mid P a = all_left P mid rest (rw (← (until_from v (behind p s))) at a)

      all_rest : (P : Node → Type 0) → AllByRecursion P (behind p s) → AllByRecursion P rest
      all_rest P a = all_right P mid rest (rw (← (until_from v (behind p s))) at a)

      first_in : (n : Node) (r : List Node) → rest ≡ n ∷ r → n ∈ t
      first_in n r e = in_behind p qt n (rw (← (until_from v (behind p s))) (in_right mid rest n (rw e (inl refl))))

      pub named_behind : AllByRecursion (λ n. has_node t n.name ≡ true) (behind p s)
      named_behind = all_behind _ all_named

      -- at a home h where the version has nothing
      module _ (h : Attachment) (rh : AttachedTo (has_node t) h) (bare : (m : Node) → m ∈ t → v m.name ≡ true → m.attachment ≡ h → ⊥) where
        abbrev goal : List Step
        goal = steps_to (steps t) h x ++ end ∷ []

        abbrev B : Node → Bool
        B n = path_before before (path t n.name) goal

        falls : Falls B s
        falls = rises_weaker _ _ (λ m n k b. path_transitive before o (path t m.name) (path t n.name) goal k b) s rises

        judged : (y : Name) → has_node t y ≡ true → path_before before (path t y) goal ≡ comes_before before t h x y (top_at t h y)
        judged y n = sides before o t g h rh x y fx n

        kin_here : (y : Name) → has_node t y ≡ true → top_outside d s v h y ≡ top_at t h y
        kin_here y n = outside_is h bare y n d (omega (arith, age_below t y n))

        -- of a node of the version
        judged_in : (y : Name) → has_node t y ≡ true → v y ≡ true → path_before before (path t y) goal ≡ beside_owner before t h y
        judged_in y n w = judged y n ∙ ap (comes_before before t h x y) (no_top h bare y n w)

        at_leaf : (c : Character) → sequence before (new_node x h c ∷ t) ≡ take (prefix_len B s) s ++ new_node x h c ∷ drop (prefix_len B s) s
        unfolding path
        at_leaf c =
            let e = new_node x h c in
            let own : path (e ∷ t) x ≡ goal = ap (λ z. z ++ end ∷ []) (steps_own e t) in
            let olds : AllByRecursion (λ n. path_before before (path (e ∷ t) n.name) (path (e ∷ t) x) ≡ B n) s
            = All-weaker _ _ (λ n k. ap₂ (path_before before) (ap (λ z. z ++ end ∷ []) (steps_older e t fx n.name k)) own) s all_named in
            let k = kept_take B s falls in
            leaf before o e t (fx, rh, g)
            ∙ ap₂ (λ a b. a ++ e ∷ b) (kept_like _ B s olds ∙ k.0) (kept_like _ (λ n. not (B n)) s (All-weaker _ _ (λ n f. ap not f) s olds) ∙ k.1)

        home_by_count : AllByRecursion (λ n. B n ≡ true) (front p s) → AllByRecursion (λ n. B n ≡ false) rest → prefix_len B s ≡ length (front p s) + prefix_len B mid
        home_by_count a b =
            ap (prefix_len B) (sym whole) ∙ leading_front B (front p s) (mid ++ rest) a ∙ ap (λ z. length (front p s) + z) (leading_stop B mid rest b)

        falls_behind : Falls B (behind p s)
        falls_behind = rises_right _ (front p s) (behind p s) (rw (← (front_is p s (has_node t) qt)) at falls)

        falls_mid : Falls B mid
        falls_mid = rising_left _ mid rest (rw (← (until_from v (behind p s))) at falls_behind)

        falls_rest : Falls B rest
        falls_rest = rises_right _ mid rest (rw (← (until_from v (behind p s))) at falls_behind)

        high_rest : (r : List Node) → rest ≡ r → ((n : Node) (ns : List Node) → rest ≡ n ∷ ns → B n ≡ false) → AllByRecursion (λ n. B n ≡ false) r
        high_rest [] e f = tt
        high_rest (n ∷ ns) e f = all_high B n ns (rw e at falls_rest) (f n ns e)

        low_front : (y : Name) → has_node t y ≡ true → path_before before (path t y) goal ≡ true → AllByRecursion (λ n. B n ≡ true) (up_to y s)
        low_front y n b =
            let r = cut_at y s (sequence_has before o t g y n) in
            rw r.4 (all_low B r.0 r.1 (after y s) (rw r.2 at falls) (rw r.3 b))

        low_at : (q : Attachment) → Origin (has_node t) q → ((y : Name) → q ≡ right_of y → has_node t y ≡ true → path_before before (path t y) goal ≡ true) → AllByRecursion (λ n. B n ≡ true) (front q s)
        low_at root k f = tt
        low_at (left_of y) k f = elim k [ ]
        low_at (right_of y) k f = low_front y k (f y refl k)

      -- at the right of the left origin
      module _ (bare : (m : Node) → m ∈ t → v m.name ≡ true → m.attachment ≡ p → ⊥) where
        prec : (y : Name) (m : Option Name) → beside_owner before t p y ≡ false → comes_before before t p x y m ≡ top_precedes before x m
        prec y None k = k
        prec y (Some w) k = refl

        root_p : AttachedTo (has_node t) p
        root_p = as_rooted (has_node t) p qt

        right_like : AllByRecursion (λ n. B p root_p bare n ≡ top_precedes before x (top_outside d s v p n.name)) mid
        right_like =
            All-weaker _ _ (λ n k. judged p root_p bare n.name k.0 ∙ prec n.name (top_at t p n.name) k.1 ∙ ap (top_precedes before x) (sym (kin_here p root_p bare n.name k.0)))
            mid (all_mid _ (all_both _ _ (behind p s) named_behind (beside_past p qt)))

        -- along the run the answer turns once
        pub right_turns : Falls (λ n. top_precedes before x (top_outside d s v p n.name)) mid
        right_turns = falls_like _ _ mid right_like (falls_mid p root_p bare)

        rights : prefix_len (B p root_p bare) s ≡ length (front p s) + up before d s v p x
        rights =
            home_by_count p root_p bare
            (low_at p root_p bare p qt (λ y e _. subst (λ z. path_before before (path t y) (steps_to (steps t) z x ++ end ∷ []) ≡ true) (sym e) (below_right x y)))
            (high_rest p root_p bare rest refl (λ n ns e.
            judged_in p root_p bare n.name (rw e at (all_rest _ named_behind)).0 (from_passes v (behind p s) n ns e)
            ∙ (rw e at (all_rest _ (beside_past p qt))).0))
            ∙ ap (λ z. length (front p s) + z) (leading_like _ _ mid right_like)

      -- at the left of the node that top_follows
      module _ (n : Node) (r : List Node) (er : rest ≡ n ∷ r) (bare : (m : Node) → m ∈ t → v m.name ≡ true → m.attachment ≡ left_of n.name → ⊥) where
        root_n : has_node t n.name ≡ true
        root_n = (rw er at (all_rest _ named_behind)).0

        behind_n : (q : Attachment) → q ≡ p → (y : Name) → q ≡ right_of y → has_node t y ≡ true → path_before before (path t y) (path t n.name) ≡ true
        behind_n q e y f k =
            let a : AllByRecursion (λ m. path_before before (path t y) (path t m.name) ≡ true) (behind p s) = subst (λ z. AllByRecursion (λ m. path_before before (path t y) (path t m.name) ≡ true) (behind z s)) (sym f ∙ e) (passed y k) in
            (rw er at (all_rest _ a)).0

        foll : (y : Name) → has_node t y ≡ true → path_before before (path t y) (path t n.name) ≡ true → (m : Option Name) → top_at t (left_of n.name) y ≡ m
            → not (comes_before before t (left_of n.name) x y m) ≡ top_follows before x m
        foll y k b None e = rw b
        foll y k b (Some w) e =
            let j = found t g (left_of n.name) y k w e in
            let nw : has_node t w ≡ true = rw j.2 at (all_member _ t j.0 (has_own t) j.1) in
            flip w (λ z. both_ways _ fx (rw (← z) nw))
          where
            flip : (w : Name) → (w ≡ x → ⊥) → not (before w x) ≡ before x w
            flip w z = grind (arith, o.total w x, o.irreflexive w, o.transitive w x w, z)

        mids : AllByRecursion (λ m. path_before before (path t m.name) (path t n.name) ≡ true) mid
        mids =
            let a : Rising Before (mid ++ n ∷ r) = rw er at (rw (← (until_from v (behind p s))) at (rises_right Before (front p s) (behind p s) (rw (← (front_is p s (has_node t) qt)) at rises))) in
            all_members _ mid (λ m i. rises_across Before mid (n ∷ r) a m n i (inl refl))

        left_like : AllByRecursion (λ m. not (B (left_of n.name) root_n bare m) ≡ top_follows before x (top_outside d s v (left_of n.name) m.name)) mid
        left_like =
            All-weaker _ _ (λ m k.
            ap not (judged (left_of n.name) root_n bare m.name k.0) ∙ foll m.name k.0 k.1 (top_at t (left_of n.name) m.name) refl
            ∙ ap (top_follows before x) (sym (kin_here (left_of n.name) root_n bare m.name k.0)))
            mid (all_both _ _ mid (all_mid _ named_behind) mids)

        pub left_turns : Falls (λ m. not (top_follows before x (top_outside d s v (left_of n.name) m.name))) mid
        left_turns =
            falls_like _ _ mid (All-weaker _ _ (λ m e. sym (twice (B (left_of n.name) root_n bare m)) ∙ ap not e) mid left_like) (falls_mid (left_of n.name) root_n bare)
          where
            twice : (a : Bool) → not (not a) ≡ a
            twice a = grind arith

        lefts : prefix_len (B (left_of n.name) root_n bare) s ≡ length (front p s) + down before d s v p x n.name
        lefts =
            home_by_count (left_of n.name) root_n bare
            (low_at (left_of n.name) root_n bare p qt (λ y e k.
            judged_in (left_of n.name) root_n bare y k (subst (Origin v) e qv) ∙ behind_n p refl y e k))
            (high_rest (left_of n.name) root_n bare rest refl (λ m ms e. let f : n ≡ m = cc (er, e) in rw (← f) (above_left x n.name)))
            ∙ ap (λ z. length (front p s) + z) (sym (from_end _ _ mid (falls_mid (left_of n.name) root_n bare) left_like))

      -- the version's own tree
      abbrev pub tv : Tree
      tv = only v t

      gv : Grown tv
      gv = grown_only v t g cl

      in_tv : (m : Node) → m ∈ tv → (m ∈ t) × (v m.name ≡ true)
      in_tv m = member_kept (λ n. v n.name) t m

      pub follow_is : behind p (sequence before tv) ≡ only v (behind p s)
      follow_is = ap (behind p) (sequence_part before o v t g cl) ∙ behind_only v p qv s

      origin_tv : Origin (has_node tv) p
      origin_tv = origin_like _ _ (λ y h. let a = and_parts (has_node t y) (v y) h in has_only v t y a.0 a.1) p q

      pub begun_at : (q : Attachment) → Origin (has_node tv) q → (k : Node) → k ∈ tv → k.attachment ≡ q → Begins before o tv q (behind q (sequence before tv))
      begun_at root h k i e =
          let z = sequence_right before o tv gv in
          begins before o tv z.in_sequence root (all_members _ z.tops (λ j w. (z.children.are j).0 w)) k ((z.children.are k).1 (i, e))
      begun_at (left_of y) h k i e = elim h [ ]
      begun_at (right_of y) h k i e = nexts before o tv (sequence_right before o tv gv).in_sequence y (sequence_has before o tv gv y h) k i e

      started : (k : Node) → k ∈ tv → k.attachment ≡ p → Starts before o tv (behind p (sequence before tv))
      started k i e = followed before o tv gv p origin_tv k i e

      -- by what hangs at the right of the left origin, and what top_follows it
      module _ (c : Character) where
        abbrev Told : List Node → List Node → Type 0
        Told ks f =
            (home d s p f ≡ attached_by ks f p)
            × (sequence before (new_node x (home d s p f) c ∷ t)
            ≡ take (length (front p s) + among before d s v p x f) s ++ new_node x (home d s p f) c ∷ drop (length (front p s) + among before d s v p x f) s)

        where_free : children before tv p ≡ [] → (m : Node) → m ∈ t → v m.name ≡ true → m.attachment ≡ p → ⊥
        where_free z m i w e = rw z at (((children_are before o tv gv p).are m).1 (kept_member (λ n. v n.name) t m w i, e))

        at_right : (z : children before tv p ≡ []) → sequence before (new_node x p c ∷ t)
            ≡ take (length (front p s) + up before d s v p x) s ++ new_node x p c ∷ drop (length (front p s) + up before d s v p x) s
        at_right z = let b = where_free z in subst (λ k. sequence before (new_node x p c ∷ t) ≡ take k s ++ new_node x p c ∷ drop k s) (rights b) (at_leaf p (root_p b) b c)

        at_left : (n : Node) (r : List Node) (er : rest ≡ n ∷ r) → Children before tv (left_of n.name) [] → sequence before (new_node x (left_of n.name) c ∷ t)
            ≡ take (length (front p s) + down before d s v p x n.name) s ++ new_node x (left_of n.name) c ∷ drop (length (front p s) + down before d s v p x n.name) s
        at_left n r er k =
            let b : (m : Node) → m ∈ t → v m.name ≡ true → m.attachment ≡ left_of n.name → ⊥ = λ m i w e. (k.are m).1 (kept_member (λ j. v j.name) t m w i, e) in
            subst (λ j. sequence before (new_node x (left_of n.name) c ∷ t) ≡ take j s ++ new_node x (left_of n.name) c ∷ drop j s) (lefts n r er b)
            (at_leaf (left_of n.name) (root_n n r er b) b c)

        told : (ks f : List Node) → children before tv p ≡ ks → only v (behind p s) ≡ f → Told ks f
        told [] [] ek ef = (refl, at_right ek)
        told (k ∷ ks) [] ek ef =
            let i = first_child before o tv gv p k ks ek in
            let b = begun_at p origin_tv k i.0 i.1 in
            absurd (grind (arith, b.2, follow_is, ef))
        told [] (n ∷ ns) ek ef =
            let fr = from_first v (behind p s) n ns ef in
            let no : same_attachment (climb d s n.attachment) p ≡ false
            = elim (cases_Bool (same_attachment (climb d s n.attachment) p)) [
              | inl z ↦
                  let a = climb_held p d n n.attachment (first_in n fr.0 fr.1) fr.2 refl (attachment_is (climb d s n.attachment) p z) in
                  absurd (where_free ek a.0 a.1 a.2 a.3)
              | inr z ↦ z
            ] in
            rw no (refl, at_right ek)
        told (k ∷ ks) (n ∷ ns) ek ef =
            let i = first_child before o tv gv p k ks ek in
            let b = begun_at p origin_tv k i.0 i.1 in
            let a = started k i.0 i.1 in
            let fr = from_first v (behind p s) n ns ef in
            let fb : b.0 ≡ n = cc (b.2, follow_is, ef) in
            let fa : a.0 ≡ n = cc (a.2, follow_is, ef) in
            let good = all_member _ t n (aged t g) (first_in n fr.0 fr.1) in
            let yes' : climb d s n.attachment ≡ p
            = climb_is p qv d n.attachment (climbs_more tv t (λ j w. (in_tv j w).0) p n.attachment (subst (λ j. Climbs tv p j.attachment) fb b.3))
            (under_more (age t) n.attachment _ d good.1 (omega (arith, good.0))) in
            rw (yes', attachment_refl p) (refl, at_left n fr.0 fr.1 (subst (λ j. Children before tv (left_of j.name) []) fa a.3))

        -- the home says which way the answer turns along the run
        pub home_right : home d s p (only v (behind p s)) ≡ p → Falls (λ n. top_precedes before x (top_outside d s v p n.name)) mid
        home_right e = go (children before tv p) refl
          where
            go : (ks : List Node) → children before tv p ≡ ks → Falls (λ n. top_precedes before x (top_outside d s v p n.name)) mid
            go [] z = right_turns (where_free z)
            go (k ∷ ks) z =
                let i = first_child before o tv gv p k ks z in
                let b = begun_at p origin_tv k i.0 i.1 in
                let r = (told (k ∷ ks) (b.0 ∷ b.1) z (sym follow_is ∙ b.2)).0 in
                absurd (not_left v p qv b.0.name (sym e ∙ ap (home d s p) (sym follow_is ∙ b.2) ∙ r))

        pub home_left : (n : Node) (ns : List Node) → only v (behind p s) ≡ n ∷ ns → home d s p (only v (behind p s)) ≡ left_of n.name
            → Falls (λ m. not (top_follows before x (top_outside d s v (left_of n.name) m.name))) mid
        home_left n ns ef e = go (children before tv p) refl
          where
            go : (ks : List Node) → children before tv p ≡ ks → Falls (λ m. not (top_follows before x (top_outside d s v (left_of n.name) m.name))) mid
            go [] z = absurd (not_left v p qv n.name (sym (told [] (only v (behind p s)) z refl).0 ∙ e))
            go (k ∷ ks) z =
                let i = first_child before o tv gv p k ks z in
                let a = started k i.0 i.1 in
                let fa : a.0 ≡ n = cc (a.2, follow_is, ef) in
                let fr = from_first v (behind p s) n ns ef in
                let kd : Children before tv (left_of n.name) [] = subst (λ j. Children before tv (left_of j.name) []) fa a.3 in
                left_turns n fr.0 fr.1 (λ m j w q'. (kd.are m).1 (kept_member (λ y. v y.name) t m w j, q'))

        pub finds : Found before d t v p x c
        finds = let r = told (children before tv p) (only v (behind p s)) refl refl in record { at_home = r.0 ∙ ap (λ z. attached_by (children before tv p) z p) (sym follow_is); in_place = r.1 }

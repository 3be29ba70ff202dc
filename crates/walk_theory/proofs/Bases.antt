-- Two trees that grow alike over two bases.
use Rattle.std.proofs.Common.{◌≡◌, Bool, true, false, cond, not, List, [], ◌∷◌, map, Some, None, Option, sym, refl, ap, ◌∙◌, subst, ap₂, inl, inr}
use Rattle.std.specs.List.{AllByRecursion}
use Rattle.std.proofs.lemmas.Bool.{both_ways, cases_Bool, or_cases, or_left, or_right}
use Rattle.std.proofs.ByRecursion.{All-weaker, All-map}
use Rattle.std.proofs.lemmas.Bool.{false_from_ne_true}
use Rattle.events.specs.declared.name.Name.{Name}
use Rattle.fugue.specs.Names.{same, Ordered, ◌∈◌, Rising}
use Rattle.fugue.specs.Paths.{path, path_before}
use Rattle.fugue.specs.Tree.{Attachment, root, left_of, right_of, same_attachment, Node, Tree, sequence, AttachedTo, only, has_node, Grown}
use Rattle.fugue.proofs.Grown.{named_sub, node_in, node_of_lem, has_only, only_has}
use Rattle.fugue.proofs.Lists.{map_member, member_map, all_member, all_members, rises_kept, rises_cases, members_decide, all_both}
use Rattle.fugue.proofs.Names.{same_name, same_own, attachment_is, attachment_refl}
use Rattle.fugue.proofs.Paths.{path_transitive, by_paths, sequence_has, tree_has}
use Rattle.walk_theory.specs.Tops.{by_owner, top_at, beside_owner, comes_before}
use Rattle.walk_theory.specs.Bases.{home_in, attached_over, node_over, grown_over, OnLater, LaterNodes, node_names, Agrees}
use Rattle.walk_theory.proofs.Tops.{tops}
use Rattle.walk_theory.proofs.Over.{never, not_both, either, home_attached, named_late, named_base, named_cases, late_new, spot_of, grown_over_lem, base_none, attached_same, path_older, new_name, judged}

module _ {X : Type 0} where
  pub rising_both : (R S : X → X → Type 0) (l : List X) → Rising R l → Rising S l → Rising (λ x y. R x y × S x y) l
  rising_both R S [] a c = tt
  rising_both R S (x ∷ l) a c = (all_both (R x) (S x) l a.0 c.0, rising_both R S l a.1 c.1)

  pub rising_in : (P : X → Type 0) (R S : X → X → Type 0) → ((x y : X) → P x → P y → R x y → S x y) → (l : List X) → AllByRecursion P l → Rising R l → Rising S l
  rising_in P R S h [] a r = tt
  rising_in P R S h (x ∷ l) a r = (All-weaker _ _ (λ y k. h x y a.0 k.0 k.1) l (all_both P (R x) l a.1 r.0), rising_in P R S h l a.1 r.1)

  pub rising_map : {Y : Type 0} (f : X → Y) (R : Y → Y → Type 0) (l : List X) → Rising (λ x y. R (f x) (f y)) l → Rising R (map f l)
  rising_map f R [] a = tt
  rising_map f R (x ∷ l) a = (All-map (R (f x)) f l a.0, rising_map f R l a.1)

-- what a list has by name, its names have
pub names_have : (l : List Node) (y : Name) → has_node l y ≡ true → y ∈ node_names l
names_have l y h = let r = node_of_lem l y h in rw r.2 at (map_member (λ n. n.name) l r.0 r.1)

has_names : (l : List Node) (y : Name) → y ∈ node_names l → has_node l y ≡ true
has_names l y i = let r = member_map (λ n. n.name) l y i in rw r.2 (node_in l r.0 r.1)

-- the node_names of a sequence
module _ (before : Name → Name → Bool) (o : Ordered before) (t : Tree) (g : Grown t) where
  abbrev Less : Name → Name → Type 0
  Less y z = path_before before (path t y) (path t z) ≡ true

  pub names_rise : Rising Less (node_names (sequence before t))
  names_rise = rising_map (λ n. n.name) Less (sequence before t) (by_paths before o t g)

  pub names_in : (y : Name) → has_node t y ≡ true → y ∈ node_names (sequence before t)
  names_in y h = names_have (sequence before t) y (sequence_has before o t g y h)

  pub names_from : (y : Name) → y ∈ node_names (sequence before t) → has_node t y ≡ true
  names_from y i = tree_has before o t g y (has_names (sequence before t) y i)

  module _ (p : Name → Bool) where
    pub part_rise : Rising Less (node_names (only p (sequence before t)))
    part_rise = rising_map (λ n. n.name) Less (only p (sequence before t)) (rises_kept _ _ (sequence before t) (by_paths before o t g))

    pub part_in : (y : Name) → has_node t y ≡ true → p y ≡ true → y ∈ node_names (only p (sequence before t))
    part_in y h k = names_have (only p (sequence before t)) y (has_only p (sequence before t) y (sequence_has before o t g y h) k)

    pub part_from : (y : Name) → y ∈ node_names (only p (sequence before t)) → p y ≡ true
    part_from y i = (only_has p (sequence before t) y (has_names (only p (sequence before t)) y i)).1

-- two trees that order the nodes of the second alike
module _ (before : Name → Name → Bool) (o : Ordered before) (big small : Tree) (gb : Grown big) (gs : Grown small) where
  abbrev pub Alike : Type 0
  Alike = (y z : Name) → has_node small y ≡ true → has_node small z ≡ true → path_before before (path big y) (path big z) ≡ path_before before (path small y) (path small z)

  pub alike_from : Agrees before big small → Alike
  alike_from a y z h k =
      let l = node_names (sequence before small) in
      let r1 = names_rise before o small gs in
      let r2 : Rising (Less before o big gb) l = rw (← a.order) at (part_rise before o big gb (has_node small)) in
      let r = rising_both (Less before o big gb) (Less before o small gs) l r2 r1 in
      elim (rises_cases _ l r y z (names_in before o small gs y h) (names_in before o small gs z k)) [
        | inl e ↦ rw e (never before o big gb z ∙ sym (never before o small gs z))
        | inr f ↦ elim f [
          | inl e ↦ e.0 ∙ sym e.1
          | inr e ↦ not_both before o big gb z y e.0 ∙ sym (not_both before o small gs z y e.1)
        ]
      ]

  pub agrees_from : ((y : Name) → has_node small y ≡ true → has_node big y ≡ true) → Alike → Agrees before big small
  agrees_from w a = record {
    within = w;
    order =
        members_decide (Less before o big gb) (λ y h. both_ways _ (never before o big gb y) h) (λ x y z. path_transitive before o (path big x) (path big y) (path big z))
        (node_names (sequence before small)) (node_names (only (has_node small) (sequence before big)))
        (rising_in (λ y. has_node small y ≡ true) (Less before o small gs) (Less before o big gb) (λ x y h k r. a x y h k ∙ r) _ (all_members _ _ (names_from before o small gs)) (names_rise before o small gs))
        (part_rise before o big gb (has_node small))
        (λ y. (
          (λ i. let h = names_from before o small gs y i in part_in before o big gb (has_node small) y (w y h) h),
          (λ i. names_in before o small gs y (part_from before o big gb (has_node small) y i)),
        ));
  }

-- one tree's part
module _ (before : Name → Name → Bool) (o : Ordered before) (b : Tree) (gb : Grown b) (kept : Name → Bool) (sub : (y : Name) → kept y ≡ true → has_node b y ≡ true) where
  pub in_over : (later : List Node) (a : Node) → a ∈ later → node_over before b a ∈ grown_over before b later
  in_over [] a i = elim i [ ]
  in_over (z ∷ later) a (inl e) = inl (ap (node_over before b) e)
  in_over (z ∷ later) a (inr i) = inr (in_over later a i)

  -- places are told apart over the base as they are
  place_alike : (later : List Node) (l : LaterNodes (has_node b) kept later) (p r : Attachment) → OnLater kept (has_node later) p → OnLater kept (has_node later) r
      → same_attachment (attached_over before b p) (attached_over before b r) ≡ same_attachment p r
  place_alike later l p r h k = elim (cases_Bool (same_attachment p r)) [
    | inl e ↦ rw (attachment_is p r e, attachment_refl r) (attachment_refl (attached_over before b r))
    | inr e ↦ elim (cases_Bool (same_attachment (attached_over before b p) (attached_over before b r))) [
      | inl f ↦
          let q = attached_same before o b gb kept sub later l p r (spot_of before o b gb kept sub later l p h) (spot_of before o b gb kept sub later l r k) (attachment_is (attached_over before b p) (attached_over before b r) f) in
          absurd (both_ways _ e (rw q (attachment_refl r)))
      | inr f ↦ f ∙ sym e
    ]
  ]

  root_none : (later : List Node) (l : LaterNodes (has_node b) kept later) (r : Attachment) → OnLater kept (has_node later) r → (p : Attachment) → AttachedTo (has_node b) p
      → by_owner (top_at (grown_over before b later) (attached_over before b r)) p ≡ None
  root_none later l r h root k = refl
  root_none later l r h (left_of y) k = base_none before o b gb kept sub later l r (spot_of before o b gb kept sub later l r h) y k
  root_none later l r h (right_of y) k = base_none before o b gb kept sub later l r (spot_of before o b gb kept sub later l r h) y k

  -- what a later node's top is
  sired : (later : List Node) (l : LaterNodes (has_node b) kept later) (r : Attachment) → OnLater kept (has_node later) r → (a : Node) → a ∈ later → OnLater kept (has_node later) a.attachment
      → top_at (grown_over before b later) (attached_over before b r) a.name
      ≡ cond (same_attachment a.attachment r) (Some a.name) (by_owner (top_at (grown_over before b later) (attached_over before b r)) (attached_over before b a.attachment))
  sired later l r h a i k =
      all_member _ (grown_over before b later) (node_over before b a) (tops (grown_over before b later) (attached_over before b r) (grown_over_lem before o b gb kept sub later l)) (in_over later a i)
      ∙ ap (λ z. cond z (Some a.name) (by_owner (top_at (grown_over before b later) (attached_over before b r)) (attached_over before b a.attachment))) (place_alike later l a.attachment r k h)

pub seated_more : (kept n m : Name → Bool) → ((y : Name) → n y ≡ true → m y ≡ true) → (r : Attachment) → OnLater kept n r → OnLater kept m r
seated_more kept n m f root h = tt
seated_more kept n m f (left_of z) h = f z h
seated_more kept n m f (right_of z) (inl h) = inl h
seated_more kept n m f (right_of z) (inr h) = inr (f z h)

module _ (before : Name → Name → Bool) (o : Ordered before) (big small : Tree) (gb : Grown big) (gs : Grown small) (w : (y : Name) → has_node small y ≡ true → has_node big y ≡ true)
    (base : Alike before o big small gb gs) where
  abbrev pub K : Name → Bool
  K = has_node small

  pub id' : (y : Name) → K y ≡ true → K y ≡ true
  id' y h = h

  pub laid_small : (later : List Node) → LaterNodes (has_node big) K later → LaterNodes K K later
  laid_small [] l = tt
  laid_small (a ∷ later) l = (false_from_ne_true (K a.name) (λ h. both_ways _ l.0 (w a.name h)), l.1, l.2, laid_small later l.3)

  abbrev pub T : List Node → Tree
  T later = grown_over before big later

  abbrev pub t : List Node → Tree
  t later = grown_over before small later

  pub g_t : (later : List Node) → LaterNodes (has_node big) K later → Grown (T later)
  g_t later l = grown_over_lem before o big gb K w later l

  pub gt : (later : List Node) → LaterNodes (has_node big) K later → Grown (t later)
  gt later l = grown_over_lem before o small gs K id' later (laid_small later l)

  module _ (later : List Node) (l : LaterNodes (has_node big) K later) (r : Attachment) (hr : OnLater K (has_node later) r) where
    abbrev s_t : Name → Option Name
    s_t = top_at (T later) (attached_over before big r)

    abbrev st : Name → Option Name
    st = top_at (t later) (attached_over before small r)

    at_alike : (p : Attachment) (n : Name → Bool) → ((y : Name) → n y ≡ true → has_node later y ≡ true) → OnLater K n p → ((z : Name) → n z ≡ true → s_t z ≡ st z) → by_owner s_t (attached_over before big p) ≡ by_owner st (attached_over before small p)
    at_alike root n f h ih =
        root_none before o big gb K w later l r hr (home_in before big root) (home_attached before o big gb root tt)
        ∙ sym (root_none before o small gs K id' later (laid_small later l) r hr (home_in before small root) (home_attached before o small gs root tt))
    at_alike (left_of z) n f h ih = ih z h
    at_alike (right_of z) n f (inl h) ih =
        rw (w z h, h)
        (root_none before o big gb K w later l r hr (home_in before big (right_of z)) (home_attached before o big gb (right_of z) (w z h))
        ∙ sym (root_none before o small gs K id' later (laid_small later l) r hr (home_in before small (right_of z)) (home_attached before o small gs (right_of z) h)))
    at_alike (right_of z) n f (inr h) ih =
        rw (late_new before o big gb K w later l z (f z h), late_new before o small gs K id' later (laid_small later l) z (f z h)) (ih z h)

    each_alike : (older : List Node) → LaterNodes (has_node big) K older → ((a : Node) → a ∈ older → a ∈ later) → (y : Name) → has_node older y ≡ true → s_t y ≡ st y
    each_alike [] u f y h = absurd (both_ways false refl h)
    each_alike (a ∷ older) u f y h =
        let ih = each_alike older u.3 (λ n i. f n (inr i)) in
        let g = named_sub older later (λ n i. f n (inr i)) in
        let k = seated_more K (has_node older) (has_node later) g a.attachment u.2 in
        elim (or_cases (same a.name y) (has_node older y) h) [
          | inl e ↦ subst (λ z. s_t z ≡ st z) (same_name a.name y e)
              (sired before o big gb K w later l r hr a (f a (inl refl)) k
              ∙ ap (λ z. cond (same_attachment a.attachment r) (Some a.name) z) (at_alike a.attachment (has_node older) g u.2 ih)
              ∙ sym (sired before o small gs K id' later (laid_small later l) r hr a (f a (inl refl)) k))
          | inr e ↦ ih y e
        ]

    pub sires_alike : (y : Name) → has_node (t later) y ≡ true → s_t y ≡ st y
    sires_alike y h = elim (named_cases before o small gs K id' later y h) [
      | inl k ↦ each_alike later l (λ a i. i) y k
      | inr k ↦
          base_none before o big gb K w later l r (spot_of before o big gb K w later l r hr) y (w y k)
          ∙ sym (base_none before o small gs K id' later (laid_small later l) r (spot_of before o small gs K id' later (laid_small later l) r hr) y k)
    ]

  pub within : (later : List Node) (y : Name) → has_node (t later) y ≡ true → has_node (T later) y ≡ true
  within later y h = elim (named_cases before o small gs K id' later y h) [
    | inl k ↦ named_late before o big gb K w later y k
    | inr k ↦ named_base before o big gb K w later y (w y k)
  ]

  pub beside_alike : (later : List Node) (l : LaterNodes (has_node big) K later) → Alike before o (T later) (t later) (g_t later l) (gt later l) → (r : Attachment) → OnLater K (has_node later) r → (y : Name) → has_node (t later) y ≡ true
      → beside_owner before (T later) r y ≡ beside_owner before (t later) r y
  beside_alike later l a root h y n = refl
  beside_alike later l a (left_of z) h y n = a y z n (named_late before o small gs K id' later z h)
  beside_alike later l a (right_of z) (inl h) y n = ap not (a z y (named_base before o small gs K id' later z h) n)
  beside_alike later l a (right_of z) (inr h) y n = ap not (a z y (named_late before o small gs K id' later z h) n)

  verdict_alike : (later : List Node) (l : LaterNodes (has_node big) K later) → Alike before o (T later) (t later) (g_t later l) (gt later l) → (r : Attachment) → OnLater K (has_node later) r → (x y : Name) → has_node (t later) y ≡ true
      → (m : Option Name) → comes_before before (T later) r x y m ≡ comes_before before (t later) r x y m
  verdict_alike later l a r h x y n None = beside_alike later l a r h y n
  verdict_alike later l a r h x y n (Some z) = refl

  module _ (a : Node) (later : List Node) (l : LaterNodes (has_node big) K (a ∷ later)) (ih : Alike before o (T later) (t later) (g_t later l.3) (gt later l.3)) where
    abbrev T' : Tree
    T' = T (a ∷ later)

    abbrev t' : Tree
    t' = t (a ∷ later)

    ls : LaterNodes K K (a ∷ later)
    ls = laid_small (a ∷ later) l

    key : (y : Name) → has_node (t later) y ≡ true → path_before before (path T' y) (path T' a.name) ≡ path_before before (path t' y) (path t' a.name)
    key y h =
        judged before o big gb K w a later l y (within later y h)
        ∙ ap (comes_before before (T later) a.attachment a.name y) (sires_alike later l.3 a.attachment l.2 y h)
        ∙ verdict_alike later l.3 ih a.attachment l.2 a.name y h (top_at (t later) (attached_over before small a.attachment) y)
        ∙ sym (judged before o small gs K id' a later ls y h)

    old : (y z : Name) → has_node (t later) y ≡ true → has_node (t later) z ≡ true → path_before before (path T' y) (path T' z) ≡ path_before before (path t' y) (path t' z)
    old y z h k =
        ap₂ (path_before before) (path_older before o big gb K w a later l y (within later y h)) (path_older before o big gb K w a later l z (within later z k))
        ∙ ih y z h k
        ∙ sym (ap₂ (path_before before) (path_older before o small gs K id' a later ls y h) (path_older before o small gs K id' a later ls z k))

    new_t : (z : Name) → has_node (t later) z ≡ true → a.name ≡ z → ⊥
    new_t z k e = both_ways _ (new_name before o small gs K id' a later ls) (rw (← e) at k)

    turned : (z : Name) → has_node (t later) z ≡ true → path_before before (path T' a.name) (path T' z) ≡ path_before before (path t' a.name) (path t' z)
    turned z k =
        let own = same_own a.name in
        either before o T' (g_t (a ∷ later) l) a.name z (or_left _ _ own) (or_right _ _ (within later z k)) (new_t z k)
        ∙ ap not (key z k)
        ∙ sym (either before o t' (gt (a ∷ later) l) a.name z (or_left _ _ own) (or_right _ _ k) (new_t z k))

    step : Alike before o T' t' (g_t (a ∷ later) l) (gt (a ∷ later) l)
    step y z h k = elim (or_cases (same a.name y) (has_node (t later) y) h) [
      | inl e ↦ elim (or_cases (same a.name z) (has_node (t later) z) k) [
        | inl f ↦ rw (← (same_name a.name y e), ← (same_name a.name z f)) (never before o T' (g_t (a ∷ later) l) a.name ∙ sym (never before o t' (gt (a ∷ later) l) a.name))
        | inr f ↦ subst (λ v. path_before before (path T' v) (path T' z) ≡ path_before before (path t' v) (path t' z)) (same_name a.name y e) (turned z f)
      ]
      | inr e ↦ elim (or_cases (same a.name z) (has_node (t later) z) k) [
        | inl f ↦ subst (λ v. path_before before (path T' y) (path T' v) ≡ path_before before (path t' y) (path t' v)) (same_name a.name z f) (key y e)
        | inr f ↦ old y z e f
      ]
    ]

  pub alike : (later : List Node) (l : LaterNodes (has_node big) K later) → Alike before o (T later) (t later) (g_t later l) (gt later l)
  alike [] l = base
  alike (a ∷ later) l = step a later l (alike later l.3)

pub twins : (before : Name → Name → Bool) (o : Ordered before) (big small : Tree) (gb : Grown big) (gs : Grown small) → Agrees before big small
    → (later : List Node) → LaterNodes (has_node big) (has_node small) later → Agrees before (grown_over before big later) (grown_over before small later)
twins before o big small gb gs ag later l =
    let base = alike_from before o big small gb gs ag in
    agrees_from before o (grown_over before big later) (grown_over before small later) (g_t before o big small gb gs ag.within base later l) (gt before o big small gb gs ag.within base later l)
    (within before o big small gb gs ag.within base later) (alike before o big small gb gs ag.within base later l)

-- One tree that grows over a base.
use Rattle.std.proofs.Common.{◌≡◌, Bool, true, false, not, ◌⊎◌, List, [], ◌∷◌, ◌++◌, Some, None, Option, sym, refl, ap, ◌∙◌, subst, ap₂, inl, inr, arith}
use Rattle.std.specs.List.{AllByRecursion}
use Rattle.std.proofs.lemmas.Bool.{both_ways, cases_Bool, or_right, or_cases}
use Rattle.std.proofs.ByRecursion.{All-weaker}
use Rattle.std.proofs.lemmas.Bool.{false_from_ne_true}
use Rattle.std.proofs.lemmas.Option.{none-some}
use Rattle.events.specs.declared.name.Name.{Name}
use Rattle.fugue.proofs.Grown.{inside}
use Rattle.fugue.specs.Names.{same, Ordered, ◌∈◌, Rising}
use Rattle.fugue.specs.Paths.{end, steps_to, steps, path, path_before}
use Rattle.fugue.specs.Placements.{after, attached_by}
use Rattle.fugue.specs.Tree.{Attachment, root, left_of, right_of, same_attachment, Node, Tree, children, sequence, AttachedTo, ClosedPart, has_node, Grown, Children}
use Rattle.fugue.proofs.Beside.{Starts}
use Rattle.fugue.proofs.Grown.{has_own, attached_like, node_of_lem}
use Rattle.fugue.proofs.Lists.{all_member, in_either, rises_right, rises_across}
use Rattle.fugue.proofs.Names.{same_name, same_own, attachment_refl}
use Rattle.fugue.proofs.Paths.{sequence_has, steps_older, steps_own, path_irreflexive, path_transitive, path_total, members, one_path}
use Rattle.fugue.proofs.Sequences.{children_are}
use Rattle.walk_theory.specs.Origins.{Origin, behind, up_to, front}
use Rattle.walk_theory.specs.Tops.{by_owner, top_at, beside_owner, comes_before}
use Rattle.walk_theory.specs.Bases.{home_in, attached_over, node_over, grown_over, OnLater, LaterNodes}
use Rattle.walk_theory.proofs.Gaps.{followed}
use Rattle.walk_theory.proofs.Tops.{top_older, top_own, sides}
use Rattle.walk_theory.proofs.Search.{cut_at, front_is, as_rooted, first_child, in_behind as node_behind, rises, no_top, beside_past, origin_like}

-- an order of node_names by their paths in a tree
module _ (before : Name → Name → Bool) (o : Ordered before) (t : Tree) (g : Grown t) where
  abbrev pub less : Name → Name → Bool
  less y z = path_before before (path t y) (path t z)

  pub never : (y : Name) → less y y ≡ false
  never y = path_irreflexive before o (path t y)

  pub not_both : (y z : Name) → less y z ≡ true → less z y ≡ false
  not_both y z h = false_from_ne_true (less z y) (λ k. both_ways _ (never y) (path_transitive before o (path t y) (path t z) (path t y) h k))

  pub either : (y z : Name) → has_node t y ≡ true → has_node t z ≡ true → (y ≡ z → ⊥) → less y z ≡ not (less z y)
  either y z h k d = elim (path_total before o (path t y) (path t z)) [
    | inl a ↦ let b = not_both y z a in a ∙ sym (ap not b)
    | inr a ↦ elim a [
      | inl e ↦
          let m = node_of_lem t y h in
          let n = node_of_lem t z k in
          absurd (d (sym m.2 ∙ ap (λ j. j.name) (one_path before o t g m.0 n.0 m.1 n.1 (rw (m.2, n.2) e)) ∙ n.2))
      | inr b ↦ not_both z y b ∙ sym (ap not b)
    ]
  ]

  -- of two nodes one is before the other
  pub one_of : (y z : Name) → has_node t y ≡ true → has_node t z ≡ true → less y z ≡ false → less z y ≡ false → y ≡ z
  one_of y z h k a c = elim (cases_Bool (same y z)) [
    | inl e ↦ same_name y z e
    | inr e ↦ absurd (both_ways false refl (sym a ∙ either y z h k (λ w. both_ways _ e (rw w (same_own z))) ∙ ap not c))
  ]

module _ (before : Name → Name → Bool) (o : Ordered before) (b : Tree) (gb : Grown b) where
  abbrev pub s : List Node
  s = sequence before b

  -- the base puts a new node at the right of its left origin, or at the left of the node that top_follows
  pub data Put (q h : Attachment) : Type 0 where
    plain : h ≡ q → ((m : Node) → m ∈ b → m.attachment ≡ q → ⊥) → Put q h
    led : (n : Node) (ns : List Node) → behind q s ≡ n ∷ ns → h ≡ left_of n.name → Children before b (left_of n.name) [] → (k : Node) → k ∈ b → k.attachment ≡ q → Put q h

  put_by : (q : Attachment) → Origin (has_node b) q → (ks f : List Node) → children before b q ≡ ks → behind q s ≡ f → Put q (attached_by ks f q)
  put_by q h [] f ek ef = plain refl (λ m i e. rw ek at (((children_are before o b gb q).are m).1 (i, e)))
  put_by q h (k ∷ ks) f ek ef =
      let i = first_child before o b gb q k ks ek in
      go f ef (followed before o b gb q h k i.0 i.1) i.0 i.1
    where
      go : (f : List Node) → behind q s ≡ f → Starts before o b (behind q s) → k ∈ b → k.attachment ≡ q → Put q (attached_by (k ∷ ks) f q)
      go [] e a i j = absurd (grind (arith, a.2, e))
      go (n ∷ ns) e a i j = let f : a.0 ≡ n = cc (a.2, e) in led n ns e refl (subst (λ m. Children before b (left_of m.name) []) f a.3) k i j

  pub home_put : (q : Attachment) → Origin (has_node b) q → Put q (home_in before b q)
  home_put q h = put_by q h (children before b q) (behind q s) refl refl

  pub in_behind : (q : Attachment) → Origin (has_node b) q → (n : Node) → n ∈ behind q s → has_node b n.name ≡ true
  in_behind q h n i = all_member _ b n (has_own b) (node_behind before o b gb q h n i)

  -- at the place that the base gives stands nothing of the base
  pub home_bare : (q : Attachment) → Origin (has_node b) q → (m : Node) → m ∈ b → m.attachment ≡ home_in before b q → ⊥
  home_bare q h m i e = elim (home_put q h) [
    | plain f z ↦ z m i (e ∙ f)
    | led n ns w f z k j l ↦ (z.are m).1 (i, e ∙ f)
  ]

  pub home_attached : (q : Attachment) → Origin (has_node b) q → AttachedTo (has_node b) (home_in before b q)
  home_attached q h = elim (home_put q h) [
    | plain f z ↦ subst (AttachedTo (has_node b)) (sym f) (as_rooted (has_node b) q h)
    | led n ns w f z k j l ↦ subst (AttachedTo (has_node b)) (sym f) (in_behind q h n (rw w (inl refl)))
  ]

  abbrev pub L : Name → Name → Bool
  L = less before o b gb

  -- what stands up to a node
  upto_not : (k : Name) → has_node b k ≡ true → (c : Node) → c ∈ up_to k s → L k c.name ≡ false
  upto_not k h c i =
      let r = cut_at k s (sequence_has before o b gb k h) in
      let rs : Rising (λ m n. L m.name n.name ≡ true) (r.0 ++ r.1 ∷ after k s) = rw r.2 at (rises before o b gb) in
      elim (in_either r.0 (r.1 ∷ []) c (rw r.4 at i)) [
        | inl j ↦ subst (λ z. L z c.name ≡ false) r.3 (not_both before o b gb c.name r.1.name (rises_across _ r.0 (r.1 ∷ after k s) rs c r.1 j (inl refl)))
        | inr j ↦ elim j [ inl e ↦ rw (e, r.3) (never before o b gb k) | inr e ↦ elim e [ ] ]
      ]

  aside_front : (q : Attachment) → Origin (has_node b) q → (c : Node) → c ∈ front q s → beside_owner before b q c.name ≡ true
  aside_front root h c i = elim i [ ]
  aside_front (left_of y) h c i = elim h [ ]
  aside_front (right_of y) h c i = ap not (upto_not y h c i)

  -- a node of the base is before that place if it is up to the left origin
  pub home_beside : (q : Attachment) → Origin (has_node b) q → (c : Name) → has_node b c ≡ true → beside_owner before b (home_in before b q) c ≡ beside_owner before b q c
  home_beside q h c k = elim (home_put q h) [
    | plain f z ↦ ap (λ p. beside_owner before b p c) f
    | led n ns w f z j l e ↦ ap (λ p. beside_owner before b p c) f ∙ by_list n ns w
  ]
    where
      by_list : (n : Node) (ns : List Node) → behind q s ≡ n ∷ ns → L c n.name ≡ beside_owner before b q c
      by_list n ns w =
          let m = node_of_lem b c k in
          let rs : Rising (λ m n. L m.name n.name ≡ true) (front q s ++ n ∷ ns) = rw w at (rw (← (front_is q s (has_node b) h)) at (rises before o b gb)) in
          let i : m.0 ∈ (front q s ++ n ∷ ns) = rw w at (rw (← (front_is q s (has_node b) h)) at ((members before o b gb m.0).1 m.1)) in
          let past-q : AllByRecursion (λ j. beside_owner before b q j.name ≡ false) (n ∷ ns) = rw w at (beside_past before o b gb q h) in
          subst (λ z. L z n.name ≡ beside_owner before b q z) m.2
          (elim (in_either (front q s) (n ∷ ns) m.0 i) [
            | inl j ↦ rises_across _ (front q s) (n ∷ ns) rs m.0 n j (inl refl) ∙ sym (aside_front q h m.0 j)
            | inr j ↦ behind_n n ns m.0 j (rises_right _ (front q s) (n ∷ ns) rs).0 ∙ sym (all_member _ (n ∷ ns) m.0 past-q j)
          ])
        where
          behind_n : (n : Node) (ns : List Node) (d : Node) → d ∈ (n ∷ ns) → AllByRecursion (λ j. L n.name j.name ≡ true) ns → L d.name n.name ≡ false
          behind_n n ns d (inl e) a = rw e (never before o b gb n.name)
          behind_n n ns d (inr i) a = not_both before o b gb n.name d.name (all_member _ ns d a i)

  -- a left origin is known by what stands up to it
  pub origin_by : (p q : Attachment) → Origin (has_node b) p → Origin (has_node b) q → ((c : Name) → has_node b c ≡ true → beside_owner before b p c ≡ beside_owner before b q c) → p ≡ q
  origin_by root root h k f = refl
  origin_by root (left_of z) h k f = elim k [ ]
  origin_by root (right_of z) h k f = absurd (both_ways false refl (f z k ∙ ap not (never before o b gb z)))
  origin_by (left_of y) q h k f = elim h [ ]
  origin_by (right_of y) root h k f = absurd (both_ways false refl (sym (f y h) ∙ ap not (never before o b gb y)))
  origin_by (right_of y) (left_of z) h k f = elim k [ ]
  origin_by (right_of y) (right_of z) h k f =
      ap right_of (one_of before o b gb y z h k (not_same _ _ (f z k) ∙ never before o b gb z) (not_same _ _ (sym (f y h)) ∙ never before o b gb y))
    where
      not_same : (x y : Bool) → not x ≡ not y → x ≡ y
      not_same x y e = grind arith

  pub stead_same : (p q : Attachment) → Origin (has_node b) p → Origin (has_node b) q → home_in before b p ≡ home_in before b q → p ≡ q
  stead_same p q h k e = origin_by p q h k (λ c n. sym (home_beside p h c n) ∙ ap (λ z. beside_owner before b z c) e ∙ home_beside q k c n)

  -- where the base puts at the left of n what comes behind q, a node of the base that is not q goes by both alike
  abbrev pub Beside : Attachment → Name → Attachment → Type 0
  Beside root n r = beside_owner before b r n ≡ true
  Beside (left_of y) n r = ⊥
  Beside (right_of y) n r = beside_owner before b r n ≡ beside_owner before b r y

  pub beside_gap : (q r : Attachment) (n : Name) → Origin (has_node b) q → Origin (has_node b) r → (q ≡ r → ⊥) → has_node b n ≡ true → ((c : Name) → has_node b c ≡ true → L c n ≡ beside_owner before b q c) → Beside q n r
  beside_gap root root n h k d m f = absurd (d refl)
  beside_gap root (left_of z) n h k d m f = elim k [ ]
  beside_gap root (right_of z) n h k d m f = ap not (f z k)
  beside_gap (left_of y) r n h k d m f = elim h [ ]
  beside_gap (right_of y) root n h k d m f = refl
  beside_gap (right_of y) (left_of z) n h k d m f = elim k [ ]
  beside_gap (right_of y) (right_of z) n h k d m f = ap not (f z k ∙ sym (either before o b gb z y k h (λ e. d (ap right_of (sym e)))))

  module _ (kept : Name → Bool) (sub : (y : Name) → kept y ≡ true → has_node b y ≡ true) where
    abbrev pub G : List Node → Tree
    G later = grown_over before b later

    pub named_late : (later : List Node) (y : Name) → has_node later y ≡ true → has_node (G later) y ≡ true
    named_late [] y h = absurd (both_ways false refl h)
    named_late (a ∷ later) y h = let ih = named_late later y in grind (arith, ih)

    pub named_base : (later : List Node) (y : Name) → has_node b y ≡ true → has_node (G later) y ≡ true
    named_base [] y h = h
    named_base (a ∷ later) y h = or_right _ _ (named_base later y h)

    pub named_cases : (later : List Node) (y : Name) → has_node (G later) y ≡ true → (has_node later y ≡ true) ⊎ (has_node b y ≡ true)
    named_cases [] y h = inr h
    named_cases (a ∷ later) y h = let ih = named_cases later y in grind (arith, ih)

    pub named_none : (later : List Node) (y : Name) → has_node later y ≡ false → has_node b y ≡ false → has_node (G later) y ≡ false
    named_none [] y h k = k
    named_none (a ∷ later) y h k = let ih = named_none later y in grind (arith, ih, h, k)

    pub late_new : (later : List Node) → LaterNodes (has_node b) kept later → (y : Name) → has_node later y ≡ true → has_node b y ≡ false
    late_new [] l y h = absurd (both_ways false refl h)
    late_new (a ∷ later) l y h = elim (or_cases (same a.name y) (has_node later y) h) [
      | inl e ↦ rw (same_name a.name y e) at l.0
      | inr e ↦ late_new later l.3 y e
    ]

    abbrev pub Outside : List Node → Attachment → Type 0
    Outside later root = ⊥
    Outside later (left_of z) = has_node later z ≡ true
    Outside later (right_of z) = has_node later z ≡ true

    -- a place is in a gap, or on a later node
    pub data Spot (later : List Node) (r : Attachment) : Type 0 where
      gap : Origin kept r → Origin (has_node b) r → attached_over before b r ≡ home_in before b r → Spot later r
      out : Outside later r → attached_over before b r ≡ r → Spot later r

    pub spot_of : (later : List Node) → LaterNodes (has_node b) kept later → (r : Attachment) → OnLater kept (has_node later) r → Spot later r
    spot_of later l root h = gap tt tt refl
    spot_of later l (left_of z) h = out h refl
    spot_of later l (right_of z) (inl k) = gap k (sub z k) (rw (sub z k))
    spot_of later l (right_of z) (inr k) = out k (rw (late_new later l z k))

    out_rooted : (later : List Node) (r : Attachment) → Outside later r → AttachedTo (has_node (G later)) r
    out_rooted later root h = elim h [ ]
    out_rooted later (left_of z) h = named_late later z h
    out_rooted later (right_of z) h = named_late later z h

    pub moved_rooted : (later : List Node) → LaterNodes (has_node b) kept later → (r : Attachment) → OnLater kept (has_node later) r → AttachedTo (has_node (G later)) (attached_over before b r)
    moved_rooted later l r h = elim (spot_of later l r h) [
      | gap k q e ↦ subst (AttachedTo (has_node (G later))) (sym e) (attached_like _ _ (named_base later) (home_in before b r) (home_attached r q))
      | out k e ↦ subst (AttachedTo (has_node (G later))) (sym e) (out_rooted later r k)
    ]

    pub grown_over_lem : (later : List Node) → LaterNodes (has_node b) kept later → Grown (G later)
    grown_over_lem [] l = gb
    grown_over_lem (a ∷ later) l = (named_none later a.name l.1 l.0, moved_rooted later l.3 a.attachment l.2, grown_over_lem later l.3)

    pub way_base : (later : List Node) → LaterNodes (has_node b) kept later → (y : Name) → has_node b y ≡ true → steps (G later) y ≡ steps b y
    way_base [] l y h = refl
    way_base (a ∷ later) l y h =
        steps_older (node_over before b a) (G later) (named_none later a.name l.1 l.0) y (named_base later y h) ∙ way_base later l.3 y h

    pub path_base : (later : List Node) → LaterNodes (has_node b) kept later → (y : Name) → has_node b y ≡ true → path (G later) y ≡ path b y
    unfolding path
    path_base later l y h = ap (λ z. z ++ end ∷ []) (way_base later l y h)

    pub beside_base : (later : List Node) → LaterNodes (has_node b) kept later → (h : Attachment) → AttachedTo (has_node b) h → (c : Name) → has_node b c ≡ true → beside_owner before (G later) h c ≡ beside_owner before b h c
    beside_base later l root r c k = refl
    beside_base later l (left_of z) r c k = rw (path_base later l z r, path_base later l c k)
    beside_base later l (right_of z) r c k = rw (path_base later l z r, path_base later l c k)

    -- the base is a closed part
    pub base_closed : (later : List Node) → LaterNodes (has_node b) kept later → ClosedPart (has_node b) (G later)
    base_closed [] l = All-weaker _ _ (λ n h _. h.1) b (inside b gb)
    base_closed (a ∷ later) l = ((λ h. absurd (both_ways _ l.0 h)), base_closed later l.3)

    pub in_base : (later : List Node) → LaterNodes (has_node b) kept later → (m : Node) → m ∈ G later → has_node b m.name ≡ true → m ∈ b
    in_base [] l m i h = i
    in_base (a ∷ later) l m (inl e) h = absurd (both_ways _ l.0 (rw (ap (λ j. j.name) e) at h))
    in_base (a ∷ later) l m (inr i) h = in_base later l.3 m i h

    pub out_not : (later : List Node) → LaterNodes (has_node b) kept later → (r : Attachment) → Outside later r → AttachedTo (has_node b) r → ⊥
    out_not later l root k h = k
    out_not later l (left_of z) k h = both_ways _ (late_new later l z k) h
    out_not later l (right_of z) k h = both_ways _ (late_new later l z k) h

    pub base_bare : (later : List Node) → LaterNodes (has_node b) kept later → (r : Attachment) → Spot later r → (m : Node) → m ∈ G later → has_node b m.name ≡ true → m.attachment ≡ attached_over before b r → ⊥
    base_bare later l r (gap k q e) m i h f = home_bare r q m (in_base later l m i h) (f ∙ e)
    base_bare later l r (out k e) m i h f = out_not later l r k (subst (AttachedTo (has_node b)) (f ∙ e) (all_member _ (G later) m (base_closed later l) i h))

    pub base_none : (later : List Node) (l : LaterNodes (has_node b) kept later) (r : Attachment) → Spot later r → (c : Name) → has_node b c ≡ true → top_at (G later) (attached_over before b r) c ≡ None
    base_none later l r sp c h =
        no_top before o (G later) (grown_over_lem later l) (has_node b) (base_closed later l) (attached_over before b r) (base_bare later l r sp) c (named_base later c h) h

    pub attached_same : (later : List Node) → LaterNodes (has_node b) kept later → (p q : Attachment) → Spot later p → Spot later q → attached_over before b p ≡ attached_over before b q → p ≡ q
    attached_same later l p q (gap k h e) (gap k' h' e') f = stead_same p q h h' (sym e ∙ f ∙ e')
    attached_same later l p q (gap k h e) (out k' e') f = absurd (out_not later l q k' (subst (AttachedTo (has_node b)) (sym e ∙ f ∙ e') (home_attached p h)))
    attached_same later l p q (out k e) (gap k' h' e') f = absurd (out_not later l p k (subst (AttachedTo (has_node b)) (sym e' ∙ sym f ∙ e) (home_attached q h')))
    attached_same later l p q (out k e) (out k' e') f = sym e ∙ f ∙ e'

    -- the newest node
    module _ (a : Node) (later : List Node) (l : LaterNodes (has_node b) kept (a ∷ later)) where
      abbrev g1 : Grown (G later)
      g1 = grown_over_lem later l.3

      pub new_name : has_node (G later) a.name ≡ false
      new_name = named_none later a.name l.1 l.0

      pub path_older : (y : Name) → has_node (G later) y ≡ true → path (G (a ∷ later)) y ≡ path (G later) y
      unfolding path
      path_older y h = ap (λ z. z ++ end ∷ []) (steps_older (node_over before b a) (G later) new_name y h)

      pub path_new : path (G (a ∷ later)) a.name ≡ steps_to (steps (G later)) (attached_over before b a.attachment) a.name ++ end ∷ []
      unfolding path
      path_new = ap (λ z. z ++ end ∷ []) (steps_own (node_over before b a) (G later))

      pub new_after : (y : Name) → has_node (G later) y ≡ true
          → path_before before (path (G (a ∷ later)) y) (path (G (a ∷ later)) a.name) ≡ comes_before before (G later) (attached_over before b a.attachment) a.name y (top_at (G later) (attached_over before b a.attachment) y)
      new_after y h =
          ap₂ (path_before before) (path_older y h) path_new
          ∙ sides before o (G later) g1 (attached_over before b a.attachment) (moved_rooted later l.3 a.attachment l.2) a.name y new_name h

      new_base : (c : Name) → has_node b c ≡ true → path_before before (path (G (a ∷ later)) c) (path (G (a ∷ later)) a.name) ≡ beside_owner before (G later) (attached_over before b a.attachment) c
      new_base c h =
          new_after c (named_base later c h)
          ∙ ap (comes_before before (G later) (attached_over before b a.attachment) a.name c) (base_none later l.3 a.attachment (spot_of later l.3 a.attachment l.2) c h)

    -- a later node stands in a gap of the base
    pub record In (later : List Node) (y : Name) : Type 0 where
      pub hole : Attachment
      pub is_kept : Origin kept hole
      pub low : (c : Name) → has_node b c ≡ true → path_before before (path (G later) c) (path (G later) y) ≡ beside_owner before b hole c
      pub head : Name
      pub headed : top_at (G later) (home_in before b hole) y ≡ Some head

    in_older : (a : Node) (later : List Node) → LaterNodes (has_node b) kept (a ∷ later) → (y : Name) → has_node (G later) y ≡ true → In later y → In (a ∷ later) y
    in_older a later l y h i = record {
      hole = i.hole;
      is_kept = i.is_kept;
      low = λ c n. ap₂ (path_before before) (path_older a later l c (named_base later c n)) (path_older a later l y h) ∙ i.low c n;
      head = i.head;
      headed = top_older (node_over before b a) (G later) (home_in before b i.hole) (new_name a later l) y h ∙ i.headed;
    }

    on_later : (a : Node) (later : List Node) (l : LaterNodes (has_node b) kept (a ∷ later)) (z : Name) → has_node later z ≡ true → In later z
        → ((c : Name) → has_node b c ≡ true → beside_owner before (G later) (attached_over before b a.attachment) c ≡ path_before before (path (G later) c) (path (G later) z))
        → ((h : Attachment) → by_owner (top_at (G later) h) (attached_over before b a.attachment) ≡ top_at (G later) h z) → In (a ∷ later) a.name
    on_later a later l z n i f e =
        let h = home_in before b i.hole in
        let own = top_own (node_over before b a) (G later) h in
        let r : (w : Name) × (top_at (G (a ∷ later)) h a.name ≡ Some w) = elim (cases_Bool (same_attachment (attached_over before b a.attachment) h)) [
          | inl k ↦ (a.name, own ∙ rw k)
          | inr k ↦ (i.head, own ∙ rw k (e h ∙ i.headed))
        ] in
        record {
          hole = i.hole;
          is_kept = i.is_kept;
          low = λ c m. new_base a later l c m ∙ f c m ∙ i.low c m;
          head = r.0;
          headed = r.1;
        }

    pub aside_late : (later : List Node) (l : LaterNodes (has_node b) kept later) (z c : Name) → has_node later z ≡ true → has_node b c ≡ true
        → not (path_before before (path (G later) z) (path (G later) c)) ≡ path_before before (path (G later) c) (path (G later) z)
    aside_late later l z c n m =
        sym (either before o (G later) (grown_over_lem later l) c z (named_base later c m) (named_late later z n) (λ e. both_ways _ (late_new later l z n) (rw e at m)))

    in_new : (a : Node) (later : List Node) (l : LaterNodes (has_node b) kept (a ∷ later)) (r : Attachment) → a.attachment ≡ r → Spot later r
        → ((z : Name) → has_node later z ≡ true → In later z) → In (a ∷ later) a.name
    in_new a later l r e (gap k q f) ih =
        let m : attached_over before b a.attachment ≡ home_in before b r = ap (attached_over before b) e ∙ f in
        record {
          hole = r;
          is_kept = k;
          low = λ c n. new_base a later l c n ∙ ap (λ h. beside_owner before (G later) h c) m ∙ beside_base later l.3 (home_in before b r) (home_attached r q) c n ∙ home_beside r q c n;
          head = a.name;
          headed = top_own (node_over before b a) (G later) (home_in before b r) ∙ rw (m, attachment_refl (home_in before b r));
        }
    in_new a later l root e (out k f) ih = elim k [ ]
    in_new a later l (left_of z) e (out k f) ih =
        on_later a later l z k (ih z k) (λ c m. ap (λ h. beside_owner before (G later) (attached_over before b h) c) e) (λ h. ap (λ p. by_owner (top_at (G later) h) (attached_over before b p)) e)
    in_new a later l (right_of z) e (out k f) ih =
        on_later a later l z k (ih z k) (λ c m. ap (λ h. beside_owner before (G later) (attached_over before b h) c) e ∙ ap (λ h. beside_owner before (G later) h c) f ∙ aside_late later l.3 z c k m)
        (λ h. ap (λ p. by_owner (top_at (G later) h) (attached_over before b p)) e ∙ ap (by_owner (top_at (G later) h)) f)

    pub in_gap : (later : List Node) → LaterNodes (has_node b) kept later → (y : Name) → has_node later y ≡ true → In later y
    in_gap [] l y h = absurd (both_ways false refl h)
    in_gap (a ∷ later) l y h =
        let ih = in_gap later l.3 in
        elim (or_cases (same a.name y) (has_node later y) h) [
          | inl e ↦ subst (In (a ∷ later)) (same_name a.name y e) (in_new a later l a.attachment refl (spot_of later l.3 a.attachment l.2) ih)
          | inr e ↦ in_older a later l y (named_late later y e) (ih y e)
        ]

    pub to_base : (q : Attachment) → Origin kept q → Origin (has_node b) q
    to_base = origin_like kept (has_node b) sub

    -- a node of another gap is beside the place as it is beside the left origin
    pub other_gap : (later : List Node) (l : LaterNodes (has_node b) kept later) (q : Attachment) → Origin kept q → (y : Name) → has_node later y ≡ true → (i : In later y) → (q ≡ i.hole → ⊥)
        → beside_owner before (G later) (home_in before b q) y ≡ beside_owner before (G later) q y
    other_gap later l q k y n i d = elim (home_put q (to_base q k)) [
      | plain f z ↦ ap (λ p. beside_owner before (G later) p y) f
      | led m ns w f z j u e ↦
          let nm = in_behind q (to_base q k) m (rw w (inl refl)) in
          ap (λ p. beside_owner before (G later) p y) f
          ∙ sym (aside_late' m.name nm)
          ∙ go q k m.name nm (beside_gap q i.hole m.name (to_base q k) (to_base i.hole i.is_kept) d nm
          (λ c h. sym (ap (λ p. beside_owner before b p c) f) ∙ home_beside q (to_base q k) c h))
    ]
      where
        aside_late' : (m : Name) → has_node b m ≡ true → not (path_before before (path (G later) m) (path (G later) y)) ≡ path_before before (path (G later) y) (path (G later) m)
        aside_late' m h = let e = aside_late later l y m n h in grind (arith, e)

        go : (q : Attachment) → Origin kept q → (m : Name) → has_node b m ≡ true → Beside q m i.hole → not (path_before before (path (G later) m) (path (G later) y)) ≡ beside_owner before (G later) q y
        go root k m h v = ap not (i.low m h ∙ v)
        go (left_of z) k m h v = elim k [ ]
        go (right_of z) k m h v = ap not (i.low m h ∙ v ∙ sym (i.low z (sub z k)))

    -- where a node lies beside a new place, in the words of the gap
    pub beside : (later : List Node) (l : LaterNodes (has_node b) kept later) (r : Attachment) → Spot later r → (y : Name) → has_node (G later) y ≡ true → top_at (G later) (attached_over before b r) y ≡ None
        → beside_owner before (G later) (attached_over before b r) y ≡ beside_owner before (G later) r y
    beside later l r (out k e) y n s = ap (λ p. beside_owner before (G later) p y) e
    beside later l r (gap k q e) y n s = ap (λ p. beside_owner before (G later) p y) e ∙ elim (named_cases later y n) [
      | inl h ↦ let i = in_gap later l y h in
          other_gap later l r k y h i (λ f. none-some i.head (sym (ap (λ p. top_at (G later) p y) (sym e) ∙ s) ∙ ap (λ p. top_at (G later) (home_in before b p) y) f ∙ i.headed))
      | inr h ↦ beside_base later l (home_in before b r) (home_attached r q) y h ∙ home_beside r q y h ∙ sym (beside_base later l r (as_rooted (has_node b) r q) y h)
    ]

    pub judged : (a : Node) (later : List Node) (l : LaterNodes (has_node b) kept (a ∷ later)) (y : Name) → has_node (G later) y ≡ true
        → path_before before (path (G (a ∷ later)) y) (path (G (a ∷ later)) a.name) ≡ comes_before before (G later) a.attachment a.name y (top_at (G later) (attached_over before b a.attachment) y)
    judged a later l y n = new_after a later l y n ∙ go (top_at (G later) (attached_over before b a.attachment) y) refl
      where
        go : (m : Option Name) → top_at (G later) (attached_over before b a.attachment) y ≡ m → comes_before before (G later) (attached_over before b a.attachment) a.name y m ≡ comes_before before (G later) a.attachment a.name y m
        go None e = beside later l.3 a.attachment (spot_of later l.3 a.attachment l.2) y n e
        go (Some w) e = refl

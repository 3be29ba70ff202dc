-- What a version gives for a left origin, in a tree that grows over a base.
use Rattle.std.proofs.Common.{◌≡◌, Bool, true, false, not, ◌&&◌, ◌⊎◌, List, [], ◌∷◌, ◌++◌, None, filter, sym, refl, ap, ◌∙◌, subst, ap₂, inl, inr}
use Rattle.std.proofs.lemmas.Bool.{both_ways, cases_Bool, or_right, and_parts, and_from}
use Rattle.events.specs.declared.name.Name.{Name}
use Rattle.fugue.proofs.Grown.{inside}
use Rattle.fugue.specs.Names.{same, Ordered, ◌∈◌}
use Rattle.fugue.specs.Paths.{end, steps_to, steps, path, path_before}
use Rattle.fugue.specs.Tree.{Attachment, root, left_of, right_of, same_attachment, Node, Tree, sequence, only, ClosedPart, has_node, Grown}
use Rattle.fugue.proofs.Grown.{has_own, grown_only, has_only, node_of_lem}
use Rattle.fugue.proofs.Lists.{kept_like, all_member, all_members, kept_member, member_kept}
use Rattle.fugue.proofs.Names.{attachment_is, attachment_refl}
use Rattle.fugue.proofs.Nested.{sequence_part}
use Rattle.fugue.proofs.Paths.{stepped, members}
use Rattle.walk_theory.specs.Origins.{Origin}
use Rattle.walk_theory.specs.Tops.{top_at, beside_owner}
use Rattle.walk_theory.specs.Bases.{home_in, attached_over, node_over, grown_over, OnLater, LaterNodes, node_names, Agrees}
use Rattle.walk_theory.proofs.Tops.{found, beside as by_place}
use Rattle.walk_theory.proofs.Search.{origin_like, top_kept, below_right, as_rooted}
use Rattle.walk_theory.proofs.Over.{never, either, one_of, plain, led, home_put, home_beside, origin_by, in_behind, Spot, gap, out, named_late, named_base, named_cases, late_new, spot_of, grown_over_lem, base_none, base_bare, attached_same, beside_base, path_base, in_gap, beside}
use Rattle.walk_theory.proofs.Bases.{Alike, alike_from, seated_more, in_over}

own_path : (t : Tree) (x : Name) (q : Attachment) → steps t x ≡ steps_to (steps t) q x → path t x ≡ steps_to (steps t) q x ++ end ∷ []
unfolding path
own_path t x q e = ap (λ z. z ++ end ∷ []) e

-- a closed part and the whole agree
module _ (before : Name → Name → Bool) (o : Ordered before) (t : Tree) (g : Grown t) (v : Name → Bool) (cl : ClosedPart v t) where
  pub part_named : (y : Name) → has_node (only v t) y ≡ true → (has_node t y ≡ true) × (v y ≡ true)
  part_named y h =
      let r = node_of_lem (only v t) y h in
      let k = member_kept (λ n. v n.name) t r.0 r.1 in
      (subst (λ z. has_node t z ≡ true) r.2 (all_member _ t r.0 (has_own t) k.0), subst (λ z. v z ≡ true) r.2 k.1)

  part_same : (y : Name) → has_node t y ≡ true → has_node (only v t) y ≡ v y
  part_same y h = elim (cases_Bool (v y)) [
    | inl e ↦ has_only v t y h e ∙ sym e
    | inr e ↦ elim (cases_Bool (has_node (only v t) y)) [ inl f ↦ absurd (both_ways _ e (part_named y f).1) | inr f ↦ f ∙ sym e ]
  ]

  part_agrees : Agrees before t (only v t)
  part_agrees = record {
    within = λ y h. (part_named y h).0;
    order = ap node_names (sequence_part before o v t g cl ∙ sym (kept_like (λ n. has_node (only v t) n.name) (λ n. v n.name) (sequence before t) (all_members _ (sequence before t) (λ n i. part_same n.name (in_named n i)))));
  }
    where
      in_named : (n : Node) → n ∈ sequence before t → has_node t n.name ≡ true
      in_named n i = all_member _ t n (has_own t) ((members before o t g n).0 i)

  pub part_alike : Alike before o t (only v t) g (grown_only v t g cl)
  part_alike = alike_from before o t (only v t) g (grown_only v t g cl) part_agrees

  part_aside : (p : Attachment) → Origin (has_node (only v t)) p → (c : Name) → has_node (only v t) c ≡ true → beside_owner before (only v t) p c ≡ beside_owner before t p c
  part_aside root h c k = refl
  part_aside (left_of z) h c k = elim h [ ]
  part_aside (right_of z) h c k = ap not (sym (part_alike z c h k))

  -- the node at whose left a version puts a new node is the first behind the left origin
  pub first : (p : Attachment) → Origin (has_node (only v t)) p → (n : Name) → has_node (only v t) n ≡ true → home_in before (only v t) p ≡ left_of n
      → (c : Name) → has_node t c ≡ true → v c ≡ true → path_before before (path t c) (path t n) ≡ beside_owner before t p c
  first p h n hn e c k w =
      let kc = has_only v t c k w in
      part_alike c n kc hn
      ∙ sym (ap (λ q. beside_owner before (only v t) q c) e)
      ∙ home_beside before o (only v t) (grown_only v t g cl) p h c kc
      ∙ part_aside p h c kc

  -- a node is before one that hangs at a place by what hangs there
  pub by_hang : (m : Node) → m ∈ t → (y : Name) → has_node t y ≡ true → top_at t m.attachment y ≡ None → path_before before (path t y) (path t m.name) ≡ beside_owner before t m.attachment y
  by_hang m i y h s =
      ap (path_before before (path t y)) (own_path t m.name m.attachment (all_member _ t m (stepped t g) i))
      ∙ by_place before o t g m.attachment (all_member _ t m (inside t g) i).1 m.name y h s

module _ (before : Name → Name → Bool) (o : Ordered before) (b : Tree) (gb : Grown b) (kept : Name → Bool) (sub : (y : Name) → kept y ≡ true → has_node b y ≡ true)
    (later : List Node) (l : LaterNodes (has_node b) kept later) (v : Name → Bool) (all : (y : Name) → has_node b y ≡ true → v y ≡ true) (cl : ClosedPart v (grown_over before b later)) where
  abbrev X : Tree
  X = grown_over before b later

  g_x : Grown X
  g_x = grown_over_lem before o b gb kept sub later l

  abbrev XV : Tree
  XV = only v X

  g_xv : Grown XV
  g_xv = grown_only v X g_x cl

  abbrev less : Name → Name → Bool
  less y z = path_before before (path X y) (path X z)

  -- something of the version hangs in the gap, or on the later node
  abbrev pub Held : Attachment → Type 0
  Held p = (a : Node) × (a ∈ later) × (v a.name ≡ true) × (a.attachment ≡ p)

  seated_in : (older : List Node) → LaterNodes (has_node b) kept older → (a : Node) → a ∈ older → OnLater kept (has_node older) a.attachment
  seated_in [] u a i = elim i [ ]
  seated_in (z ∷ older) u a (inl e) = rw e (seated_more kept (has_node older) (has_node (z ∷ older)) (λ y. or_right (same z.name y) (has_node older y)) z.attachment u.2)
  seated_in (z ∷ older) u a (inr i) = seated_more kept (has_node older) (has_node (z ∷ older)) (λ y. or_right (same z.name y) (has_node older y)) a.attachment (seated_in older u.3 a i)

  from_late : (older : List Node) (m : Node) → m ∈ grown_over before b older → (m ∈ b) ⊎ ((a : Node) × (a ∈ older) × (m ≡ node_over before b a))
  from_late [] m i = inl i
  from_late (z ∷ older) m (inl e) = inr (z, inl refl, e)
  from_late (z ∷ older) m (inr i) = elim (from_late older m i) [ inl k ↦ inl k | inr k ↦ inr (k.0, inr k.1, k.2) ]

  -- what hangs where the base puts things is a later node of that gap
  held_from : (r : Attachment) → Spot before o b gb kept sub later r → (m : Node) → m ∈ X → v m.name ≡ true → m.attachment ≡ attached_over before b r → Held r
  held_from r sp m i w e = elim (from_late later m i) [
    | inl k ↦ absurd (base_bare before o b gb kept sub later l r sp m i (all_member _ b m (has_own b) k) e)
    | inr k ↦
        let a = k.0 in (
          a,
          k.1,
          subst (λ n. v n.name ≡ true) k.2 w,
          attached_same before o b gb kept sub later l a.attachment r (spot_of before o b gb kept sub later l a.attachment (seated_in later l a k.1)) sp (sym (ap (λ n. n.attachment) k.2) ∙ e),
        )
  ]

  late_named : (a : Node) → a ∈ later → has_node later a.name ≡ true
  late_named a i = all_member _ later a (has_own later) i

  in_part : (m : Node) → m ∈ X → v m.name ≡ true → m ∈ XV
  in_part m i w = kept_member (λ n. v n.name) X m w i

  base_in : (m : Node) → m ∈ b → m ∈ XV
  base_in m i = in_part m (up later) (all m.name (all_member _ b m (has_own b) i))
    where
      up : (older : List Node) → m ∈ grown_over before b older
      up [] = i
      up (z ∷ older) = inr (up older)

  held_in : (r : Attachment) (h : Held r) → (m : Node) × (m ∈ XV) × (m.name ≡ h.0.name) × (m.attachment ≡ attached_over before b r)
  held_in r h = (node_over before b h.0, in_part (node_over before b h.0) (in_over before o b gb kept sub later h.0 h.1) h.2, refl, ap (attached_over before b) h.3)

  -- beside a later node of the version in the gap, the first node behind the left origin is a later one
  early : (p : Attachment) (sp : Spot before o b gb kept sub later p) (h : Held p) → (c : Name) → has_node b c ≡ true → less c h.0.name ≡ beside_owner before X p c
  early p sp h c k =
      let m = node_over before b h.0 in
      let e : m.attachment ≡ attached_over before b p = ap (attached_over before b) h.3 in
      let s0 : top_at X (attached_over before b p) c ≡ None = base_none before o b gb kept sub later l p sp c k in
      let s = ap (λ q. top_at X q c) e ∙ s0 in
      let nc = named_base before o b gb kept sub later c k in
      by_hang before o X g_x v cl m (in_over before o b gb kept sub later h.0 h.1) c nc s
      ∙ ap (λ q. beside_owner before X q c) e
      ∙ beside before o b gb kept sub later l p sp c nc s0

  held_after : (p : Attachment) (sp : Spot before o b gb kept sub later p) (h : Held p) → Origin (has_node X) p → beside_owner before X p h.0.name ≡ false
  held_after root sp h q = refl
  held_after (left_of z) sp h q = elim q [ ]
  held_after (right_of z) (gap k u e) h q = ap not (early (right_of z) (gap k u e) h z u ∙ ap not (never before o X g_x z))
  held_after (right_of z) (out k e) h q =
      let m = node_over before b h.0 in
      let f : m.attachment ≡ right_of z = ap (attached_over before b) h.3 ∙ e in
      ap not (ap (path_before before (path X z)) (own_path X h.0.name (right_of z) (all_member _ X m (stepped X g_x) (in_over before o b gb kept sub later h.0 h.1) ∙ ap (λ r. steps_to (steps X) r h.0.name) f)) ∙ below_right before o X g_x h.0.name z)

  late_first : (p : Attachment) (sp : Spot before o b gb kept sub later p) → Held p → Origin (has_node X) p → (n : Name) → has_node X n ≡ true → v n ≡ true
      → ((c : Name) → has_node X c ≡ true → v c ≡ true → less c n ≡ beside_owner before X p c) → has_node later n ≡ true
  late_first p sp h q n k w f = elim (named_cases before o b gb kept sub later n k) [
    | inl i ↦ i
    | inr i ↦
        let x = h.0.name in
        let lx = late_named h.0 h.1 in
        let a = early p sp h n i ∙ sym (f n k w) ∙ never before o X g_x n in
        let d : x ≡ n → ⊥ = λ e. both_ways _ (late_new before o b gb kept sub later l x lx) (rw e i) in
        let c = either before o X g_x x n (named_late before o b gb kept sub later x lx) k d ∙ ap not a in
        absurd (both_ways (less x n) (f x (named_late before o b gb kept sub later x lx) h.2 ∙ held_after p sp h q) c)
  ]

  abbrev hangs : Attachment → Node → Bool
  hangs p n = v n.name && same_attachment n.attachment p

  find_held : (p : Attachment) (older : List Node) → ((a : Node) × (a ∈ older) × (v a.name ≡ true) × (a.attachment ≡ p)) ⊎ ((a : Node) → a ∈ older → v a.name ≡ true → a.attachment ≡ p → ⊥)
  find_held p older = go (filter (hangs p) older) (member_kept (hangs p) older) (kept_member (hangs p) older)
    where
      go : (f : List Node) → ((n : Node) → n ∈ f → (n ∈ older) × (hangs p n ≡ true)) → ((n : Node) → hangs p n ≡ true → n ∈ older → n ∈ f)
          → ((a : Node) × (a ∈ older) × (v a.name ≡ true) × (a.attachment ≡ p)) ⊎ ((a : Node) → a ∈ older → v a.name ≡ true → a.attachment ≡ p → ⊥)
      go [] m k = inr (λ a i w e. elim (k a (and_from (v a.name) (same_attachment a.attachment p) w (rw e (attachment_refl p))) i) [ ])
      go (a ∷ f) m k = let r = m a (inl refl) in let e = and_parts (v a.name) (same_attachment a.attachment p) r.1 in inl (a, r.0, e.0, attachment_is a.attachment p e.1)

  -- the home is the gap's, or the left of a later node
  pub data Home (p : Attachment) : Type 0 where
    new : (Held p → ⊥) → home_in before XV p ≡ attached_over before b p → Home p
    old : Held p → (n : Name) → has_node later n ≡ true → home_in before XV p ≡ left_of n → beside_owner before X p n ≡ false
        → ((c : Name) → has_node X c ≡ true → v c ≡ true → less c n ≡ beside_owner before X p c) → v n ≡ true → Home p

  module _ (p : Attachment) (sp : Spot before o b gb kept sub later p) (qv : Origin (has_node XV) p) where
    q_x : Origin (has_node X) p
    q_x = origin_like _ _ (λ y h. (part_named before o X g_x v cl y h).0) p qv

    -- the gap's own place is p, or something of the base hangs there
    bare_moved : ((m : Node) → m ∈ XV → m.attachment ≡ p → ⊥) → attached_over before b p ≡ p
    bare_moved z = elim sp [
      | gap k q e ↦ e ∙ elim (home_put before o b gb p q) [ plain f w ↦ f | led n ns w f kd m j u ↦ absurd (z m (base_in m j) u) ]
      | out k e ↦ e
    ]

    module _ (n : Name) (hn : has_node XV n ≡ true) (f : home_in before XV p ≡ left_of n) where
      n_x : has_node X n ≡ true
      n_x = (part_named before o X g_x v cl n hn).0

      vn : v n ≡ true
      vn = (part_named before o X g_x v cl n hn).1

      F : (c : Name) → has_node X c ≡ true → v c ≡ true → less c n ≡ beside_owner before X p c
      F = first before o X g_x v cl p qv n hn f

      own_false : beside_owner before X p n ≡ false
      own_false = sym (F n n_x vn) ∙ never before o X g_x n

      with_held : Held p → Home p
      with_held h = old h n (late_first p sp h q_x n n_x vn F) f own_false F vn

      -- nothing of the version in the gap: then n top_follows in the base too
      FBase : Origin (has_node b) p → (c : Name) → has_node b c ≡ true → less c n ≡ beside_owner before b p c
      FBase q c k = F c (named_base before o b gb kept sub later c k) (all c k) ∙ beside_base before o b gb kept sub later l p (as_rooted (has_node b) p q) c k

      not_late : (Held p → ⊥) → Origin kept p → Origin (has_node b) p → attached_over before b p ≡ home_in before b p → has_node later n ≡ true → ⊥
      not_late nh k q e i =
          let g = in_gap before o b gb kept sub later l n i in
          let same-hole : g.hole ≡ p = origin_by before o b gb g.hole p (origin_like kept (has_node b) sub g.hole g.is_kept) q (λ c m. sym (g.low c m) ∙ FBase q c m) in
          let r = found X g_x (home_in before b g.hole) n n_x g.head g.headed in
          let w = top_kept before o X g_x v cl (home_in before b g.hole) n n_x vn g.head g.headed in
          nh (held_from p sp r.0 r.1 (rw r.2 w) (r.3 ∙ ap (home_in before b) same-hole ∙ sym e))

      same_next : (n0 : Name) → has_node b n0 ≡ true → ((c : Name) → has_node b c ≡ true → path_before before (path b c) (path b n0) ≡ beside_owner before b p c) → Origin (has_node b) p → has_node b n ≡ true → n ≡ n0
      same_next n0 h0 F0 q k =
          one_of before o X g_x n n0 n_x (named_base before o b gb kept sub later n0 h0)
          (ap₂ (path_before before) (path_base before o b gb kept sub later l n k) (path_base before o b gb kept sub later l n0 h0) ∙ F0 n k ∙ sym (FBase q n k) ∙ never before o X g_x n)
          (FBase q n0 h0 ∙ sym (F0 n0 h0) ∙ never before o b gb n0)

    home_held : Held p → Home p
    home_held h = elim (home_put before o XV g_xv p qv) [
      | plain f z ↦ let m = held_in p h in absurd (z m.0 m.1 (m.3 ∙ bare_moved z))
      | led n ns w f kd k j e ↦ with_held n.name (in_behind before o XV g_xv p qv n (rw w (inl refl))) f h
    ]

    held_at : (k : Node) → k ∈ XV → k.attachment ≡ attached_over before b p → Held p
    held_at k j e = let r = member_kept (λ n. v n.name) X k j in held_from p sp k r.0 r.1 e

    led_gap : (nh : Held p → ⊥) → Origin kept p → (q : Origin (has_node b) p) → attached_over before b p ≡ home_in before b p → (n : Node) → has_node XV n.name ≡ true → home_in before XV p ≡ left_of n.name
        → (k : Node) → k ∈ XV → k.attachment ≡ p → home_in before XV p ≡ attached_over before b p
    led_gap nh kp q e n hn f k j u = elim (home_put before o b gb p q) [
      | plain f0 z0 ↦ absurd (nh (held_at k j (u ∙ sym (e ∙ f0))))
      | led m ms w f0 kd0 k0 j0 u0 ↦
          f ∙ ap left_of (elim (named_cases before o b gb kept sub later n.name (n_x n.name hn f)) [
            | inl i ↦ absurd (not_late n.name hn f nh kp q e i)
            | inr i ↦ same_next n.name hn f m.name (in_behind before o b gb p q m (rw w (inl refl)))
                (λ c h. sym (ap (λ r. beside_owner before b r c) f0) ∙ home_beside before o b gb p q c h) q i
          ]) ∙ sym (e ∙ f0)
    ]

    home_none : (Held p → ⊥) → Home p
    home_none nh = elim (home_put before o XV g_xv p qv) [
      | plain f z ↦ new nh (f ∙ sym (bare_moved z))
      | led n ns w f kd k j e ↦ elim sp [
        | gap kp q u ↦ new nh (led_gap nh kp q u n (in_behind before o XV g_xv p qv n (rw w (inl refl))) f k j e)
        | out i u ↦ absurd (nh (held_at k j (e ∙ sym u)))
      ]
    ]

    pub home : Home p
    home = elim (find_held p later) [
      | inl h ↦ home_held h
      | inr h ↦ home_none (λ r. h r.0 r.1 r.2 r.3)
    ]

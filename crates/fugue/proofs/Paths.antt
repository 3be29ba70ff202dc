-- The sequence is the list of the nodes that rises by their paths.
use Rattle.std.proofs.Common.{◌≡◌, Bool, true, false, ◌⊎◌, ◌↔◌, List, [], ◌∷◌, ◌++◌, refl, ap, ◌∙◌, inl, inr, append_assoc, arith}
use Rattle.std.specs.List.{AllByRecursion}
use Rattle.std.proofs.lemmas.Bool.{both_ways}
use Rattle.std.proofs.ByRecursion.{All-weaker, All-append}
use Rattle.events.specs.declared.name.Name.{Name}
use Rattle.fugue.specs.Names.{◌∈◌, Rising, Ordered}
use Rattle.fugue.specs.Tree.{Attachment, root, left_of, right_of, Node, Tree, sequence, AttachedTo, Grown, Children, InSequence, none, next, SequenceOf}
use Rattle.fugue.specs.Paths.{Step, left, end, right, steps_to, steps, path, step_before, path_before, precedes}
use Rattle.fugue.specs.Theorems.{PathOrder}
use Rattle.fugue.proofs.Names.{same_own, order_cases}
use Rattle.fugue.proofs.Lists.{all_member, all_members, all_both, rises_joined, rises_cases, rises_weaker, in_either, in_left, in_right, members_decide}
use Rattle.fugue.proofs.Sorted.{InOrder, Apart}
use Rattle.fugue.proofs.Grown.{has_node, node_of_lem, named_sub, other_name, inside}
use Rattle.fugue.proofs.Sequences.{sequence_right, all_sequence}

module _ (before : Name → Name → Bool) (o : Ordered before) where
  pub step_irreflexive : (a : Step) → step_before before a a ≡ false
  step_irreflexive (left a) = o.irreflexive a
  step_irreflexive end = refl
  step_irreflexive (right a) = o.irreflexive a

  pub step_transitive : (a b c : Step) → step_before before a b ≡ true → step_before before b c ≡ true → step_before before a c ≡ true
  step_transitive a b c g h = grind (arith, o.transitive)

  pub step_total : (a b : Step) → (step_before before a b ≡ true) ⊎ ((a ≡ b) ⊎ (step_before before b a ≡ true))
  step_total a b = grind (arith, order_cases before o)

  pub path_irreflexive : (p : List Step) → path_before before p p ≡ false
  path_irreflexive [] = refl
  path_irreflexive (a ∷ p) = let ih = path_irreflexive p in grind (arith, step_irreflexive a)

  pub path_transitive : (p q r : List Step) → path_before before p q ≡ true → path_before before q r ≡ true → path_before before p r ≡ true
  path_transitive [] [] r g h = h
  path_transitive [] (b ∷ q) [] g h = h
  path_transitive [] (b ∷ q) (c ∷ r) g h = refl
  path_transitive (a ∷ p) [] r g h = absurd (both_ways false refl g)
  path_transitive (a ∷ p) (b ∷ q) [] g h = h
  path_transitive (a ∷ p) (b ∷ q) (c ∷ r) g h =
      let ih = path_transitive p q r in grind (arith, ih, step_transitive, step_total a b, step_total b c)

  pub path_total : (p q : List Step) → (path_before before p q ≡ true) ⊎ ((p ≡ q) ⊎ (path_before before q p ≡ true))
  path_total [] [] = inr (inl refl)
  path_total [] (b ∷ q) = inl refl
  path_total (a ∷ p) [] = inr (inr refl)
  path_total (a ∷ p) (b ∷ q) = let ih = path_total p q in grind (arith, step_total a b, step_irreflexive a)

  pub path_order : PathOrder before
  path_order = record { irreflexive = path_irreflexive; transitive = path_transitive; total = path_total }

  after_common : (u p q : List Step) → path_before before p q ≡ true → path_before before (u ++ p) (u ++ q) ≡ true
  after_common [] p q h = h
  after_common (a ∷ u) p q h = let ih = after_common u p q h in grind (arith, step_irreflexive a)

  -- two paths that part at a step
  fork : (u x y p q : List Step) (a b : Step) → x ≡ u ++ a ∷ p → y ≡ u ++ b ∷ q → step_before before a b ≡ true → path_before before x y ≡ true
  fork u x y p q a b g h e = rw (g, h) (after_common u (a ∷ p) (b ∷ q) (rw e))

-- the newest node changes no older node's steps
pub steps_older : (n : Node) (older : Tree) → has_node older n.name ≡ false → (x : Name) → has_node older x ≡ true → steps (n ∷ older) x ≡ steps older x
unfolding steps
steps_older n older f x h = rw (other_name n older f x h)

pub to_older : (n : Node) (older : Tree) → has_node older n.name ≡ false → (q : Attachment) (x : Name) → AttachedTo (has_node older) q
    → steps_to (steps older) q x ≡ steps_to (steps (n ∷ older)) q x
to_older n older f root x h = refl
to_older n older f (left_of y) x h = rw (steps_older n older f y h)
to_older n older f (right_of y) x h = rw (steps_older n older f y h)

pub steps_own : (n : Node) (older : Tree) → steps (n ∷ older) n.name ≡ steps_to (steps older) n.attachment n.name
unfolding steps
steps_own n older = rw (same_own n.name)

-- the steps of each node come from those of what it is attached to
abbrev pub Stepped : Tree → (Name → List Step) → Node → Type 0
Stepped t w n = w n.name ≡ steps_to w n.attachment n.name

pub stepped : (t : Tree) → Grown t → AllByRecursion (Stepped t (steps t)) t
stepped [] g = tt
stepped (n ∷ older) g = (
  steps_own n older ∙ to_older n older g.0 n.attachment n.name g.1,
  All-weaker _ _ (λ m h. steps_older n older g.0 m.name h.0.0 ∙ h.1 ∙ to_older n older g.0 m.attachment m.name h.0.1) older
      (all_both _ _ older (inside older g.2) (stepped older g.2)),
)

module _ (before : Name → Name → Bool) (o : Ordered before) (t : Tree) (w : Name → List Step) (eq : AllByRecursion (Stepped t w) t) where
  abbrev AnyName : Name → Type 0
  AnyName x = Unit {0}

  -- the path of a node goes by the steps u and then to one of some siblings
  abbrev GoesBy : List Step → (Name → Step) → (Name → Type 0) → Node → Type 0
  GoesBy u c P m = (x : Name) × P x × (z : List Step) × (w m.name ++ end ∷ [] ≡ u ++ c x ∷ z)

  attached : (q : Attachment) (ns : List Node) → Children before t q ns → AllByRecursion (λ k. w k.name ≡ steps_to w q k.name) ns
  attached q ns k = all_members _ ns (λ n i. let h = (k.are n).0 i in rw h.1 at (all_member _ t n eq h.0))

  -- what goes through a child of n goes through n
  through_parent : (n : Node) (u : List Step) (c d : Name → Step) (P Q : Name → Type 0) → P n.name → w n.name ≡ u ++ c n.name ∷ []
      → (m : Node) → GoesBy (w n.name) d Q m → GoesBy u c P m
  through_parent n u c d P Q p e m h =
      (n.name, p, d h.0 ∷ h.2, h.3 ∙ ap (λ v. v ++ d h.0 ∷ h.2) e ∙ append_assoc u (c n.name ∷ []) (d h.0 ∷ h.2))

  through_node : (n : Node) (l r : List Node) (u : List Step) (c : Name → Step) (P : Name → Type 0) → P n.name → w n.name ≡ u ++ c n.name ∷ []
      → AllByRecursion (GoesBy (w n.name) left AnyName) l → AllByRecursion (GoesBy (w n.name) right AnyName) r → AllByRecursion (GoesBy u c P) (l ++ n ∷ r)
  through_node n l r u c P p e al ar =
      All-append (GoesBy u c P) l (n ∷ r) (All-weaker _ _ (through_parent n u c left P AnyName p e) l al) (
        (n.name, p, end ∷ [], ap (λ v. v ++ end ∷ []) e ∙ append_assoc u (c n.name ∷ []) (end ∷ [])),
        All-weaker _ _ (through_parent n u c right P AnyName p e) r ar,
      )

  lefts : (n : Node) (ls : List Node) → Children before t (left_of n.name) ls → AllByRecursion (λ k. AnyName k.name × (w k.name ≡ w n.name ++ left k.name ∷ [])) ls
  lefts n ls k = All-weaker _ _ (λ m h. (tt, h)) ls (attached (left_of n.name) ls k)

  rights : (n : Node) (rs : List Node) → Children before t (right_of n.name) rs → AllByRecursion (λ k. AnyName k.name × (w k.name ≡ w n.name ++ right k.name ∷ [])) rs
  rights n rs k = All-weaker _ _ (λ m h. (tt, h)) rs (attached (right_of n.name) rs k)

  through : {ns s : List Node} → InSequence before t ns s → (u : List Step) (c : Name → Step) (P : Name → Type 0)
      → AllByRecursion (λ k. P k.name × (w k.name ≡ u ++ c k.name ∷ [])) ns → AllByRecursion (GoesBy u c P) s
  through none u c P a = tt
  through (next {n = n} {ls = ls} {rs = rs} {s = s} {l = l} {r = r} kl vl kr vr vs) u c P a =
      All-append (GoesBy u c P) (l ++ n ∷ r) s
      (through_node n l r u c P a.0.0 a.0.1 (through vl (w n.name) left AnyName (lefts n ls kl)) (through vr (w n.name) right AnyName (rights n rs kr)))
      (through vs u c P a.1)

  abbrev Precedes : Node → Node → Type 0
  Precedes m n = path_before before (w m.name ++ end ∷ []) (w n.name ++ end ∷ []) ≡ true

  parted : (u : List Step) (c d : Name → Step) (P Q : Name → Type 0) → ((x y : Name) → P x → Q y → step_before before (c x) (d y) ≡ true)
      → (ms ns : List Node) → AllByRecursion (GoesBy u c P) ms → AllByRecursion (GoesBy u d Q) ns → AllByRecursion (λ m. AllByRecursion (Precedes m) ns) ms
  parted u c d P Q h ms ns a b =
      All-weaker _ _ (λ m g. All-weaker _ _ (λ n f. fork before o u _ _ g.2 f.2 (c g.0) (d f.0) g.3 f.3 (h _ _ g.1 f.1)) ns b) ms a

  ends_here : (n : Node) → AllByRecursion (GoesBy (w n.name) (λ _. end) AnyName) (n ∷ [])
  ends_here n = ((n.name, tt, [], refl), tt)

  rises_by_path : {ns s : List Node} → InSequence before t ns s → (u : List Step) (c : Name → Step) → ((x y : Name) → before x y ≡ true → step_before before (c x) (c y) ≡ true)
      → AllByRecursion (λ k. w k.name ≡ u ++ c k.name ∷ []) ns → InOrder before ns → Rising Precedes s
  rises_by_path none u c h a b = tt
  rises_by_path (next {n = n} {ns = ns} {ls = ls} {rs = rs} {s = s} {l = l} {r = r} kl vl kr vr vs) u c h a b =
      let al = through vl (w n.name) left AnyName (lefts n ls kl) in
      let ar = through vr (w n.name) right AnyName (rights n rs kr) in
      rises_joined Precedes (l ++ n ∷ r) s
      (rises_joined Precedes l (n ∷ r) (rises_by_path vl (w n.name) left (λ _ _ e. e) (attached (left_of n.name) ls kl) kl.rise) (
        (parted (w n.name) (λ _. end) right AnyName AnyName (λ _ _ _ _. refl) (n ∷ []) r (ends_here n) ar).0,
        rises_by_path vr (w n.name) right (λ _ _ e. e) (attached (right_of n.name) rs kr) kr.rise,
      )
      (All-weaker _ _ (λ m g. (g.0.0, g.1)) l
      (all_both _ _ l (parted (w n.name) left (λ _. end) AnyName AnyName (λ _ _ _ _. refl) l (n ∷ []) al (ends_here n))
      (parted (w n.name) left right AnyName AnyName (λ _ _ _ _. refl) l r al ar))))
      (rises_by_path vs u c h a.1 b.1)
      (parted u c c (λ x. x ≡ n.name) (λ y. before n.name y ≡ true) (λ x y e f. h x y (rw e f)) (l ++ n ∷ r) s
      (through_node n l r u c (λ x. x ≡ n.name) refl a.0 al ar)
      (through vs u c (λ y. before n.name y ≡ true) (all_both _ _ ns b.0 a.1)))

-- every node is reached
module _ (before : Name → Name → Bool) (t : Tree) where
  sibling_in : {ns s : List Node} → InSequence before t ns s → (k : Node) → k ∈ ns → k ∈ s
  sibling_in none k i = i
  sibling_in (next {n = n} {s = s} {l = l} {r = r} kl vl kr vr vs) k (inl e) = in_left (l ++ n ∷ r) s k (in_right l (n ∷ r) k (inl e))
  sibling_in (next {n = n} {s = s} {l = l} {r = r} kl vl kr vr vs) k (inr i) = in_right (l ++ n ∷ r) s k (sibling_in vs k i)

  child_in : {ns s : List Node} → InSequence before t ns s → (m k : Node) → m ∈ s → k ∈ t
      → (k.attachment ≡ left_of m.name) ⊎ (k.attachment ≡ right_of m.name) → k ∈ s
  child_in none m k i h e = elim i [ ]
  child_in (next {n = n} {s = s} {l = l} {r = r} kl vl kr vr vs) m k i h e =
      elim (in_either (l ++ n ∷ r) s m i) [
        | inl j ↦ in_left (l ++ n ∷ r) s k (elim (in_either l (n ∷ r) m j) [
          | inl f ↦ in_left l (n ∷ r) k (child_in vl m k f h e)
          | inr f ↦ elim f [
            | inl g ↦ elim e [
              | inl p ↦ in_left l (n ∷ r) k (sibling_in vl k ((kl.are k).1 (h, rw (← g) p)))
              | inr p ↦ in_right l (n ∷ r) k (inr (sibling_in vr k ((kr.are k).1 (h, rw (← g) p))))
            ]
            | inr g ↦ in_right l (n ∷ r) k (inr (child_in vr m k g h e))
          ]
        ])
        | inr j ↦ in_right (l ++ n ∷ r) s k (child_in vs m k j h e)
      ]

module _ (before : Name → Name → Bool) (o : Ordered before) (t : Tree) (g : Grown t) where
  seq : SequenceOf before t (sequence before t)
  seq = sequence_right before o t g

  joins : (n : Node) (older : Tree) (q : Attachment) → n.attachment ≡ q → AttachedTo (has_node older) q → n ∈ t → AllByRecursion (λ m. m ∈ sequence before t) older
      → n ∈ sequence before t
  joins n older root e h i a = sibling_in before t seq.in_sequence n ((seq.children.are n).1 (i, e))
  joins n older (left_of x) e h i a =
      let r = node_of_lem older x h in
      child_in before t seq.in_sequence r.0 n (all_member _ older r.0 a r.1) i (inl (rw r.2 e))
  joins n older (right_of x) e h i a =
      let r = node_of_lem older x h in
      child_in before t seq.in_sequence r.0 n (all_member _ older r.0 a r.1) i (inr (rw r.2 e))

  all_reached : (older : Tree) → Grown older → ((n : Node) → n ∈ older → n ∈ t) → AllByRecursion (λ m. m ∈ sequence before t) older
  all_reached [] h sub = tt
  all_reached (n ∷ older) h sub =
      let a = all_reached older h.2 (λ m i. sub m (inr i)) in
      (joins n older n.attachment refl h.1 (sub n (inl refl)) a, a)

  pub members : (n : Node) → n ∈ sequence before t ↔ n ∈ t
  members n = (
    all_member _ _ n (all_sequence before (λ m. m ∈ t) t (all_members _ t (λ m i. i))),
    all_member _ t n (all_reached t g (λ m i. i)),
  )

  -- the sequence has the names of the tree
  pub sequence_has : (y : Name) → has_node t y ≡ true → has_node (sequence before t) y ≡ true
  sequence_has = named_sub t (sequence before t) (λ n. (members n).1)

  pub tree_has : (y : Name) → has_node (sequence before t) y ≡ true → has_node t y ≡ true
  tree_has = named_sub (sequence before t) t (λ n. (members n).0)

  abbrev pub RisesByPath : List Node → Type 0
  RisesByPath s = Rising (λ m n. precedes before t m.name n.name ≡ true) s

  pub by_paths : RisesByPath (sequence before t)
  unfolding path
  by_paths =
      rises_by_path before o t (steps t) (stepped t g) seq.in_sequence [] right (λ _ _ e. e)
      (attached before o t (steps t) (stepped t g) root _ seq.children) seq.children.rise

  pub only_by_paths : (s : List Node) → RisesByPath s → ((n : Node) → n ∈ s ↔ n ∈ t) → s ≡ sequence before t
  only_by_paths s r m =
      members_decide (λ m n. precedes before t m.name n.name ≡ true) (λ n. both_ways _ (path_irreflexive before o (path t n.name)))
      (λ x y z. path_transitive before o (path t x.name) (path t y.name) (path t z.name)) s (sequence before t) r by_paths
      (λ n. ((λ i. (members n).1 ((m n).0 i)), (λ i. (m n).1 ((members n).0 i))))

  pub one_path : (m n : Node) → m ∈ t → n ∈ t → path t m.name ≡ path t n.name → m ≡ n
  one_path m n i j e = elim (rises_cases _ (sequence before t) by_paths m n ((members m).1 i) ((members n).1 j)) [
    | inl f ↦ f
    | inr f ↦ elim f [
      | inl h ↦ absurd (both_ways _ (path_irreflexive before o (path t n.name)) (rw e at h))
      | inr h ↦ absurd (both_ways _ (path_irreflexive before o (path t n.name)) (rw e at h))
    ]
  ]

  pub sequence_apart : Apart (sequence before t)
  sequence_apart = rises_weaker _ _ (λ m n h e. both_ways _ (path_irreflexive before o (path t n.name)) (rw e at h)) (sequence before t) by_paths

  -- one node to a name
  pub one_node : (m n : Node) → m ∈ t → n ∈ t → m.name ≡ n.name → m ≡ n
  one_node m n i j e = one_path m n i j (ap (path t) e)

-- Where the newest node comes into the sequence.
use Rattle.std.proofs.Common.{◌≡◌, Bool, true, false, not, List, [], ◌∷◌, ◌++◌, filter, sym, refl, ap, ◌∙◌, subst, ap₂, inl, inr, append-nil}
use Rattle.std.specs.List.{AllByRecursion}
use Rattle.std.proofs.lemmas.Bool.{both_ways}
use Rattle.std.proofs.lemmas.List.Elements.{filter-append}
use Rattle.std.proofs.ByRecursion.{All-weaker}
use Rattle.std.proofs.lemmas.Bool.{false_from_ne_true}
use Rattle.events.specs.declared.name.Name.{Name}
use Rattle.fugue.specs.Names.{same, Ordered, ◌∈◌, Rising}
use Rattle.fugue.specs.Tree.{Node, Tree, sequence, only, Grown}
use Rattle.fugue.specs.Paths.{path, precedes}
use Rattle.fugue.specs.Placements.{after}
use Rattle.fugue.specs.Edits.{in_front_of}
use Rattle.fugue.proofs.Names.{same_own, same_not}
use Rattle.fugue.proofs.Lists.{all_member, all_members, kept_nothing, kept_whole, in_right, rises_across, rises_right}
use Rattle.fugue.proofs.Sorted.{Apart}
use Rattle.fugue.proofs.Grown.{has_node, has_own, node_in, other_name, inside, attached_like, ClosedPart}
use Rattle.fugue.proofs.Nested.{sequence_part}
use Rattle.fugue.proofs.Paths.{path_irreflexive, path_transitive, by_paths, members, one_node, sequence_apart}
use Rattle.fugue.proofs.Beside.{cut}

-- the other nodes of a sequence have other names
pub others : (x : Name) (a b : List Node) (n : Node) → n.name ≡ x → Apart (a ++ n ∷ b) → AllByRecursion (λ m. same x m.name ≡ false) (a ++ b)
others x a b n e h = all_members _ (a ++ b) (λ m i. same_not x m.name (go a h m i))
  where
    go : (a : List Node) → Apart (a ++ n ∷ b) → (m : Node) → m ∈ (a ++ b) → x ≡ m.name → ⊥
    go [] h m i q = all_member _ b m h.0 i (e ∙ q)
    go (k ∷ a) h m (inl f) q = all_member _ (a ++ n ∷ b) n h.0 (in_right a (n ∷ b) n (inl refl)) (sym (ap (λ z. z.name) f) ∙ sym q ∙ sym e)
    go (k ∷ a) h m (inr i) q = go a h.1 m i q

module _ (before : Name → Name → Bool) (o : Ordered before) (n : Node) (t : Tree) (g : Grown (n ∷ t)) where
  abbrev pub new : List Node
  new = sequence before (n ∷ t)

  -- the nodes in front of the newest one, and those after it
  abbrev pub front : List Node
  front = in_front_of n.name new

  abbrev pub back : List Node
  back = after n.name new

  pub new_is : new ≡ front ++ n ∷ back
  new_is =
      let c = cut n.name new (node_in new n ((members before o (n ∷ t) g n).1 (inl refl))) in
      c.is ∙ ap (λ m. front ++ m ∷ back) (one_node before o (n ∷ t) g c.at n ((members before o (n ∷ t) g c.at).0 c.member) (inl refl) c.name)

  -- all names but the newest
  abbrev older : Name → Bool
  older x = not (same n.name x)

  older_has : (x : Name) → has_node t x ≡ true → older x ≡ true
  older_has x h = ap not (other_name n t g.0 x h)

  rest : only older (n ∷ t) ≡ t
  rest = rw (same_own n.name) (kept_whole _ t (All-weaker _ _ (λ m. older_has m.name) t (has_own t)))

  closed : ClosedPart older (n ∷ t)
  closed = (
    (λ h. absurd (both_ways (older n.name) (ap not (same_own n.name)) h)),
    All-weaker _ _ (λ m h _. attached_like _ _ older_has m.attachment h.1) t (inside t g.2),
  )

  -- without the newest node the sequence is what it was
  pub old_is : sequence before t ≡ front ++ back
  old_is =
      let keep : Node → Bool = λ m. older m.name in
      let all : AllByRecursion (λ m. keep m ≡ true) (front ++ back)
      = All-weaker _ _ (λ m h. ap not h) (front ++ back) (others n.name front back n refl (subst Apart new_is (sequence_apart before o (n ∷ t) g))) in
      ap (sequence before) (sym rest)
      ∙ sequence_part before o older (n ∷ t) g closed
      ∙ ap (filter keep) new_is
      ∙ filter-append keep front (n ∷ back)
      ∙ rw (same_own n.name) (sym (filter-append keep front back) ∙ kept_whole keep (front ++ back) all)

  abbrev Before : Node → Node → Type 0
  Before m k = precedes before (n ∷ t) m.name k.name ≡ true

  order : Rising Before (front ++ n ∷ back)
  order = subst (Rising Before) new_is (by_paths before o (n ∷ t) g)

  abbrev low : Node → Bool
  low m = precedes before (n ∷ t) m.name n.name

  lows : AllByRecursion (λ m. low m ≡ true) front
  lows = all_members _ front (λ m i. rises_across Before front (n ∷ back) order m n i (inl refl))

  highs : AllByRecursion (λ m. low m ≡ false) back
  highs =
      let x = path (n ∷ t) n.name in
      All-weaker _ _ (λ m b. false_from_ne_true (low m) (λ q. both_ways _ (path_irreflexive before o x) (path_transitive before o x (path (n ∷ t) m.name) x b q)))
      back (rises_right Before front (n ∷ back) order).0

  -- it comes after exactly the nodes that precede it
  pub leaf : sequence before (n ∷ t) ≡ filter low (sequence before t) ++ n ∷ filter (λ m. not (low m)) (sequence before t)
  leaf =
      let high : Node → Bool = λ m. not (low m) in
      let f : filter low (sequence before t) ≡ front
      = ap (filter low) old_is ∙ filter-append low front back
      ∙ ap₂ ◌++◌ (kept_whole low front lows) (kept_nothing low back highs) ∙ append-nil front in
      let b : filter high (sequence before t) ≡ back
      = ap (filter high) old_is ∙ filter-append high front back
      ∙ ap₂ ◌++◌ (kept_nothing high front (All-weaker _ _ (λ m h. ap not h) front lows)) (kept_whole high back (All-weaker _ _ (λ m h. ap not h) back highs)) in
      new_is ∙ sym (ap₂ (λ x y. x ++ n ∷ y) f b)

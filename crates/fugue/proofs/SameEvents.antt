-- Logs that hold the same events have the same placements, texts and edits.
use Rattle.std.proofs.Common.{◌≡◌, Bool, true, false, List, [], ◌∷◌, ◌++◌, sym, refl, ap, ◌∙◌, subst, ap₂, inl, inr}
use Rattle.std.specs.List.{AllByRecursion}
use Rattle.std.proofs.lemmas.Bool.{both_ways, or_right, or_left, or_cases}
use Rattle.std.proofs.lemmas.Bool.{false_from_ne_true}
use Rattle.events.specs.declared.name.Name.{Name}
use Rattle.events.specs.Parts.{NamedEvent, SameEvent}
use Rattle.fugue.specs.Names.{◌∈◌, same, has, Ordered}
use Rattle.fugue.proofs.Lists.{all_members, kept_whole, Alike, all_member, kept_member, member_kept}
use Rattle.fugue.specs.Logs.{NewestFirst, names, version, Distinct, ParentsHeld, Within, SameEvents}
use Rattle.fugue.specs.Tree.{Node, Grown}
use Rattle.fugue.specs.Placements.{inserted, Placed, node_of, nodes, placement, placements, seen, placement_in, tree_at, tree, characters, text_at, text}
use Rattle.fugue.specs.Edits.{edit_of, edit}
use Rattle.fugue.proofs.Names.{same_name, same_own, has_in, in_has}
use Rattle.fugue.proofs.Versions.{version_heads, version_held, version_mono, version_within, within_held, same_forth, same_back}
use Rattle.fugue.proofs.Placed.{tree_step, grown_log, grown_part}
use Rattle.fugue.proofs.Alike.{characters_same, placement_same, edit_same}

module _ (before : Name → Name → Bool) where
  -- an event that is new to a log, placed
  abbrev pub place : NewestFirst → NamedEvent → Placed
  place log e = record { name = e.name; placement = placement_in before log e }

  pub placements_step : (e : NamedEvent) (log : NewestFirst) → placements before (e ∷ log) ≡ place log e ∷ placements before log
  unfolding placements placement_in seen
  placements_step e log = refl

  pub placements_none : placements before [] ≡ []
  unfolding placements
  placements_none = refl

  pub placed_held : (log : NewestFirst) (p : Placed) → p ∈ placements before log → has (names log) p.name ≡ true
  unfolding placements
  placed_held [] p i = elim i [ ]
  placed_held (e ∷ log) p (inl q) = or_left (same e.name p.name) _ (rw (ap (λ z. z.name) q) (same_own e.name))
  placed_held (e ∷ log) p (inr i) = or_right (same e.name p.name) _ (placed_held log p i)

  -- the version of all names is the whole log
  seen_whole : (log : NewestFirst) → seen before log (names log) ≡ placements before log
  unfolding seen
  seen_whole log =
      kept_whole (λ p. has (version log (names log)) p.name) (placements before log)
      (all_members _ (placements before log) (λ p i. let h = placed_held log p i in version_heads log (names log) p.name h h))

  pub whole : (log : NewestFirst) → (tree_at before log (names log) ≡ tree before log) × (text_at before log (names log) ≡ text before log)
  unfolding tree_at tree text_at text
  whole log = (ap nodes (seen_whole log), ap (characters before) (seen_whole log))

  pub placed_of : (log : NewestFirst) (x : Name) → has (names log) x ≡ true → (p : Placed) × (p ∈ placements before log) × (p.name ≡ x)
  unfolding placements placement_in seen
  placed_of [] x h = absurd (both_ways false refl h)
  placed_of (e ∷ log) x h = elim (or_cases _ _ h) [
    | inl q ↦ (place log e, inl refl, same_name e.name x q)
    | inr q ↦ let r = placed_of log x q in (r.0, inr r.1, r.2)
  ]

  pub one_placed : (log : NewestFirst) → Distinct log → (p q : Placed) → p ∈ placements before log → q ∈ placements before log → p.name ≡ q.name → p ≡ q
  unfolding placements
  one_placed [] u p q i j e = elim i [ ]
  one_placed (d ∷ log) u p q (inl f) (inl k) e = f ∙ sym k
  one_placed (d ∷ log) u p q (inl f) (inr j) e = absurd (both_ways _ u.0 (rw (sym (ap (λ z. z.name) f) ∙ e) (placed_held log q j)))
  one_placed (d ∷ log) u p q (inr i) (inl k) e = absurd (both_ways _ u.0 (rw (sym (ap (λ z. z.name) k) ∙ sym e) (placed_held log p i)))
  one_placed (d ∷ log) u p q (inr i) (inr j) e = one_placed log u.1 p q i j e

  abbrev pub PlacedIn : NewestFirst → NewestFirst → Type 0
  PlacedIn a b = (p : Placed) → p ∈ placements before a → p ∈ placements before b

  -- a log that b holds whole, and heads of which it holds those that b does
  pub record Part (b a : NewestFirst) (heads : List Name) : Type 0 where
    pub distinct : Distinct a
    pub below : ParentsHeld a
    pub within : Within a b
    pub placed : PlacedIn a b
    pub known : (x : Name) → x ∈ heads → has (names b) x ≡ true → has (names a) x ≡ true

  module _ (b : NewestFirst) (ub : Distinct b) (kb : ParentsHeld b) where
    seen_half : (a c : NewestFirst) (hs ts : List Name) → Part b a hs → Part b c ts → ((x : Name) → x ∈ hs → x ∈ ts)
        → (p : Placed) → p ∈ seen before a hs → p ∈ seen before c ts
    unfolding seen
    seen_half a c hs ts pa pc h p i =
        let r = member_kept (λ q. has (version a hs) q.name) (placements before a) p i in
        let va = has_in (version a hs) p.name r.1 in
        let vb = (version_within a b pa.within ub pa.below pa.distinct kb hs pa.known p.name).0 va in
        let vt = version_mono b hs ts (λ x k. in_has ts x (h x (has_in hs x k))) p.name (in_has (version b hs) p.name vb) in
        let vc = (version_within c b pc.within ub pc.below pc.distinct kb ts pc.known p.name).1 (has_in (version b ts) p.name vt) in
        let w = in_has (version c ts) p.name vc in
        let q = placed_of c p.name (version_held c ts p.name w) in
        let e : q.0 ≡ p = one_placed b ub q.0 p (pc.placed q.0 q.1) (pa.placed p r.0) q.2 in
        kept_member (λ z. has (version c ts) z.name) (placements before c) p w (subst (λ z. z ∈ placements before c) e q.1)

    seen_alike : (a c : NewestFirst) (hs ts : List Name) → Part b a hs → Part b c ts → Alike hs ts → Alike (seen before a hs) (seen before c ts)
    seen_alike a c hs ts pa pc h p =
        (seen_half a c hs ts pa pc (λ x. (h x).0) p, seen_half c a ts hs pc pa (λ x. (h x).1) p)

    -- an event of b with the log that it came to
    record At (d : NamedEvent) : Type 0 where
      older : NewestFirst
      sub : (e : NamedEvent) → e ∈ older → e ∈ b
      distinct : Distinct older
      below : ParentsHeld older
      parents : AllByRecursion (λ p. has (names older) p ≡ true) d.parents
      placed : PlacedIn older b
      is : place older d ∈ placements before b

  at : (b : NewestFirst) (ub : Distinct b) (kb : ParentsHeld b) (d : NamedEvent) → d ∈ b → At b ub kb d
  at [] ub kb d i = elim i [ ]
  at (e ∷ b) ub kb d (inl f) = record {
    older = b;
    sub = λ c j. inr j;
    distinct = ub.1;
    below = kb.1;
    parents = subst (λ z. AllByRecursion (λ p. has (names b) p ≡ true) z.parents) (sym f) kb.0;
    placed = λ p j. rw (placements_step e b) (inr j);
    is = rw (placements_step e b) (inl (ap (place b) f));
  }
  at (e ∷ b) ub kb d (inr i) = let r = at b ub.1 kb.1 d i in record {
    older = r.older;
    sub = λ c j. inr (r.sub c j);
    distinct = r.distinct;
    below = r.below;
    parents = r.parents;
    placed = λ p j. rw (placements_step e b) (inr (r.placed p j));
    is = rw (placements_step e b) (inr r.is);
  }

  pub grown_seen : (log : NewestFirst) → Distinct log → (heads : List Name) → Grown (nodes (seen before log heads))
  unfolding tree_at
  grown_seen log u heads = grown_part before log u heads

  pub same_event : (e : NamedEvent) → SameEvent e e
  same_event e = record { name = refl; deed = refl; parents = record { forth = λ x h. h; back = λ x h. h } }

  module _ (o : Ordered before) where
    -- the placement of a same event in two parts of one log
    pub same_placement : (b : NewestFirst) (ub : Distinct b) (kb : ParentsHeld b) (a c : NewestFirst) (e d : NamedEvent)
        → Part b a e.parents → Part b c d.parents → SameEvent e d → placement_in before a e ≡ placement_in before c d
    unfolding placement_in
    same_placement b ub kb a c e d pa pc s =
        let h : Alike e.parents d.parents = λ x. (same_forth s x, same_back s x) in
        placement_same before o (seen before a e.parents) (seen before c d.parents) (grown_seen a pa.distinct e.parents) (grown_seen c pc.distinct d.parents)
        (seen_alike b ub kb a c e.parents d.parents pa pc h) e.name e.deed
        ∙ ap₂ (placement before (seen before c d.parents)) s.name s.deed

    pub placements_within : (b : NewestFirst) → Distinct b → ParentsHeld b → (a : NewestFirst) → Distinct a → ParentsHeld a → Within a b → PlacedIn a b
    placements_within b ub kb [] ua ka w p i = absurd (rw placements_none at i)
    placements_within b ub kb (e ∷ a) ua ka w p i = go (placements_within b ub kb a ua.1 ka.1 (λ d j. w d (inr j))) (w e (inl refl)) (rw (placements_step e a) at i)
      where
        go : PlacedIn a b → (d : NamedEvent) × (d ∈ b) × SameEvent e d → p ∈ (place a e ∷ placements before a) → p ∈ placements before b
        go ih r (inr j) = ih p j
        go ih r (inl f) =
            let k = at b ub kb r.0 r.1 in
            let m = same_placement b ub kb a k.older e r.0
            (record { distinct = ua.1; below = ka.1; within = λ d j. w d (inr j); placed = ih; known = λ x j _. all_member _ e.parents x ka.0 j })
            (record {
              distinct = k.distinct;
              below = k.below;
              within = λ d j. (d, k.sub d j, same_event d);
              placed = k.placed;
              known = λ x j _. all_member _ r.0.parents x k.parents j;
            }) r.2 in
            subst (λ q. q ∈ placements before b) (sym (f ∙ λ i. record { name = r.2.name i; placement = m i })) k.is

    -- two logs that hold the same events
    module _ (a b : NewestFirst) (ua : Distinct a) (ka : ParentsHeld a) (ub : Distinct b) (kb : ParentsHeld b) (s : SameEvents a b) where
      pub all_alike : Alike (placements before a) (placements before b)
      all_alike p = (placements_within b ub kb a ua ka s.0 p, placements_within a ua ka b ub kb s.1 p)

      part_a : (heads : List Name) → Part b a heads
      part_a heads =
          record { distinct = ua; below = ka; within = s.0; placed = λ p. (all_alike p).0; known = λ x _. within_held b a s.1 x }

      part_b : (heads : List Name) → Part b b heads
      part_b heads = record { distinct = ub; below = kb; within = λ d j. (d, j, same_event d); placed = λ p i. i; known = λ x _ h. h }

      pub same_version : (heads tops : List Name) → Alike heads tops → text_at before a heads ≡ text_at before b tops
      unfolding text_at
      same_version heads tops h =
          characters_same before o (seen before a heads) (seen before b tops) (grown_seen a ua heads) (grown_seen b ub tops)
          (seen_alike b ub kb a b heads tops (part_a heads) (part_b tops) h)

      ga : Grown (nodes (placements before a))
      unfolding tree
      ga = grown_log before a ua

      gb : Grown (nodes (placements before b))
      unfolding tree
      gb = grown_log before b ub

      pub same_text : text before a ≡ text before b
      unfolding text
      same_text = characters_same before o (placements before a) (placements before b) ga gb all_alike

      module _ (e d : NamedEvent) (h : SameEvent e d) (f : has (names a) e.name ≡ false) where
        same_place : placement_in before a e ≡ placement_in before b d
        same_place = same_placement b ub kb a b e d (part_a e.parents) (part_b d.parents) h

        f' : has (names b) d.name ≡ false
        f' = false_from_ne_true (has (names b) d.name) (λ q. both_ways _ f (rw h.name (within_held b a s.1 d.name q)))

        grown_with : (c : NewestFirst) → Distinct c → (k : NamedEvent) → has (names c) k.name ≡ false → (n : Node) → placement_in before c k ≡ inserted n → Grown (n ∷ nodes (placements before c))
        unfolding tree
        grown_with c uc k fk n q = subst Grown (tree_step before k c ∙ ap (λ m. node_of m ++ tree before c) q) (grown_log before (k ∷ c) (fk, uc))

        pub same_edit : edit before a e ≡ edit before b d
        unfolding edit
        same_edit =
            edit_same before o (placements before a) (placements before b) ga gb all_alike (placement_in before a e)
            (λ n q. (grown_with a ua e f n q, grown_with b ub d f' n (sym same_place ∙ q)))
            ∙ ap (edit_of before (placements before b)) same_place

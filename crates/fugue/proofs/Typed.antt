-- In its parents' text an event does what it says, at its own position.
use Rattle.std.proofs.Common.{◌≡◌, ℕ, zero, suc, ◌<◌, ◌≤◌, Bool, true, false, not, ◌||◌, ◌↔◌, List, [], ◌∷◌, ◌++◌, length, Some, None, filter, Option, sym, refl, ap, ◌∙◌, subst, ap₂, inl, inr, arith}
use lib.ListN.{length-map}
use Rattle.std.specs.List.{AllByRecursion, slice_get}
use Rattle.std.proofs.lemmas.Bool.{both_ways, cases_Bool, not-true}
use Rattle.std.proofs.lemmas.Option.{none-some, slice_get_cases, slice_get_past}
use Rattle.std.proofs.lemmas.Bool.{false_from_ne_true}
use Rattle.events.specs.declared.name.Name.{Name}
use Rattle.events.specs.declared.character.Character.{Character}
use Rattle.events.specs.declared.deed.Deed.{Deed}
use Rattle.events.specs.declared.deed.Deed.TheVariants as deed
use Rattle.events.specs.Parts.{NamedEvent}
use Rattle.fugue.specs.declared.edit.Edit.TheVariants.{Insert, Delete}
use Rattle.fugue.specs.Names.{same, has, Ordered}
use Rattle.fugue.specs.Logs.{NewestFirst, version, Distinct}
use Rattle.fugue.specs.Tree.{Node, sequence, Grown}
use Rattle.fugue.specs.Theorems.{PastTheText, asked}
use Rattle.fugue.specs.Placements.{target_of, targets, part_of, tree_at, beyond, Placed, nodes, struck, LeftOrigin, start, node, left_origin, following, visible, characters, attachment_after, placement, placements, seen, placement_in, text_at}
use Rattle.fugue.specs.Edits.{in_front_of, count_before, edit_of, carry_out}
use Rattle.fugue.proofs.Names.{same_own, same_not, has_in, in_has, has_append}
use Rattle.fugue.proofs.Lists.{all_member, all_members, in_left, nth_in, member_kept, kept_like, in_joined, from_joined}
use Rattle.fugue.proofs.Sorted.{Apart}
use Rattle.fugue.proofs.Grown.{has_node, node_in}
use Rattle.fugue.proofs.Paths.{members, sequence_apart}
use Rattle.fugue.proofs.Versions.{other_event, version_same}
use Rattle.fugue.proofs.Placed.{origin_of, deleted_at, inserted_at, Origin, visible_in, placement_sound, part_has, fresh_node}
use Rattle.fugue.proofs.Beside.{up_to_name, up_to, up_to_following, comes_after}
use Rattle.fugue.proofs.NewNode.{origin_in}
use Rattle.fugue.proofs.Edits.{does_placement, inserted_character, fresh_struck}
use Rattle.fugue.proofs.SameEvents.{place, placements_step, placed_held, grown_seen}

-- how many of a list pass up to the one that is number k among those that do
module _ (shown : Node → Bool) where
  abbrev Counted : List Node → ℕ → Node → Type 0
  Counted s k m = (length (filter shown (up_to_name m.name s)) ≡ suc k) × (length (filter shown (in_front_of m.name s)) ≡ k)

  counted_live : (n : Node) (s : List Node) → Apart (n ∷ s) → shown n ≡ true → (k : ℕ) (m : Node) → slice_get (n ∷ filter shown s) k ≡ Some m
      → ((j : ℕ) → slice_get (filter shown s) j ≡ Some m → Counted s j m) → Counted (n ∷ s) k m
  counted_live n s a l zero m q ih =
      let e : n ≡ m = cc in
      let d : same n.name m.name ≡ true = subst (λ z. same n.name z.name ≡ true) e (same_own n.name) in
      rw (d, l) (refl, refl)
  counted_live n s a l (suc k) m q ih =
      let r = ih k q in
      let i = (member_kept shown s m (nth_in (filter shown s) k m q)).0 in
      let d = same_not n.name m.name (all_member _ s m a.0 i) in
      rw (d, l) (ap suc r.0, ap suc r.1)

  counted : (s : List Node) → Apart s → (k : ℕ) (m : Node) → slice_get (filter shown s) k ≡ Some m → Counted s k m
  counted [] a k m q = absurd (grind arith)
  counted (n ∷ s) a k m q = elim (cases_Bool (shown n)) [
    | inl l ↦ counted_live n s a l k m (rw l at q) (λ j. counted s a.1 j m)
    | inr l ↦
        let r = counted s a.1 k m (rw l at q) in
        let i = (member_kept shown s m (nth_in (filter shown s) k m (rw l at q))).0 in
        let d = same_not n.name m.name (all_member _ s m a.0 i) in
        rw (d, l) r
  ]

-- which places a list has
nth_none : {X : Type 0} (xs : List X) (k : ℕ) → slice_get xs k ≡ None → length xs ≤ k
nth_none xs k q = elim (slice_get_cases xs k).1 [ inl r ↦ absurd (none-some r.0 (sym q ∙ r.2)) | inr r ↦ r.0 ]

-- the front of a sequence, up to a name that it does not have
pub front_of : (a b : List Node) (n : Node) → AllByRecursion (λ m. same m.name n.name ≡ false) a → in_front_of n.name (a ++ n ∷ b) ≡ a
front_of [] b n h = rw (same_own n.name)
front_of (m ∷ a) b n h = rw h.0 (ap (λ z. m ∷ z) (front_of a b n h.1))

module _ (before : Name → Name → Bool) (o : Ordered before) (ps : List Placed) (g : Grown (nodes ps)) (x : Name) (f : has_node (nodes ps) x ≡ false) where
  abbrev shown : Node → Bool
  shown n = not (struck ps n.name)

  abbrev s : List Node
  s = sequence before (nodes ps)

  s_apart : Apart s
  s_apart = sequence_apart before o (nodes ps) g

  -- no node of the sequence has the new name
  not_new : (l r : List Node) → s ≡ l ++ r → AllByRecursion (λ m. same m.name x ≡ false) l
  not_new l r e = all_members _ l (λ m i. same_not m.name x (λ q.
      both_ways _ f (rw q at (node_in (nodes ps) m ((members before o (nodes ps) g m).0 (rw e (in_left l r m i)))))))

  inserts_at : (c : Character) (q : LeftOrigin) → Origin (has_node (nodes ps)) q
      → count_before ps x (sequence before (record { name = x; character = c; attachment = attachment_after before (nodes ps) q } ∷ nodes ps)) ≡ length (filter shown (up_to q s))
  inserts_at c q h =
      let z = comes_after before o (nodes ps) g x c f q h in
      ap (count_before ps x) z
      ∙ ap (λ l. length (filter shown l)) (front_of (up_to q s) (following q s) _ (not_new (up_to q s) (following q s) (up_to_following q s)))

  visible_is : visible before ps ≡ filter shown s
  unfolding visible
  visible_is = refl

  -- the left origin of position k has k visible nodes up to it
  origin_counts : (k : ℕ) (q : LeftOrigin) → left_origin (filter shown s) k ≡ Some q → length (filter shown (up_to q s)) ≡ k
  origin_counts zero start e = refl
  origin_counts zero (node y) e = absurd (grind arith)
  origin_counts (suc k) q e = go (slice_get (filter shown s) k) refl e
    where
      by_name : (m : Node) → slice_get (filter shown s) k ≡ Some m → (q : LeftOrigin) → node m.name ≡ q → length (filter shown (up_to q s)) ≡ suc k
      by_name m h q r = subst (λ w. length (filter shown (up_to w s)) ≡ suc k) r (counted shown s s_apart k m h).0

      go : (m : Option Node) → slice_get (filter shown s) k ≡ m → origin_of m ≡ Some q → length (filter shown (up_to q s)) ≡ suc k
      go None h r = absurd (grind arith)
      go (Some m) h r = by_name m h q (cc)

  insert_asked : (c : Character) (k : ℕ) (q : Option LeftOrigin) → left_origin (visible before ps) k ≡ q → (inserted_at before ps x c q ≡ beyond → ⊥)
      → edit_of before ps (inserted_at before ps x c q) ≡ Insert k
  insert_asked c k None e h = absurd (h refl)
  insert_asked c k (Some q) e h =
      ap Insert (inserts_at c q (origin_in (nodes ps) (visible before ps) (visible_in before ps) k q e) ∙ origin_counts k q (rw visible_is at e))

  delete_asked : (k : ℕ) (m : Option Node) → slice_get (visible before ps) k ≡ m → (deleted_at m ≡ beyond → ⊥) → edit_of before ps (deleted_at m) ≡ Delete k
  delete_asked k None e h = absurd (h refl)
  delete_asked k (Some m) e h =
      let e' = rw visible_is at e in
      let r = member_kept shown s m (nth_in (filter shown s) k m e') in
      rw (not-true (struck ps m.name) r.1) (ap Delete (counted shown s s_apart k m e').1)

  edit_asked : (d : Deed) → (placement before ps x d ≡ beyond → ⊥) → edit_of before ps (placement before ps x d) ≡ asked d
  unfolding placement
  edit_asked (deed.Insert c p) h = insert_asked c p.at (left_origin (visible before ps) p.at) refl h
  edit_asked (deed.Delete p) h = delete_asked p.at (slice_get (visible before ps) p.at) refl h

  -- beyond is past the text

  long : length (characters before ps) ≡ length (visible before ps)
  unfolding characters
  long = length-map (visible before ps) (λ n. n.character)

  none_inserted : (c : Character) (q : Option LeftOrigin) → inserted_at before ps x c q ≡ beyond → q ≡ None
  none_inserted c None h = refl
  none_inserted c (Some q) h = absurd (grind arith)

  none_deleted : (m : Option Node) → deleted_at m ≡ beyond → m ≡ None
  none_deleted None h = refl
  none_deleted (Some m) h = absurd (grind arith)

  no_origin : (k : ℕ) → left_origin (visible before ps) k ≡ None → length (visible before ps) < k
  no_origin zero e = absurd (grind arith)
  no_origin (suc k) e = go (slice_get (visible before ps) k) refl e
    where
      go : (m : Option Node) → slice_get (visible before ps) k ≡ m → origin_of m ≡ None → length (visible before ps) < suc k
      go None h r = let l = nth_none (visible before ps) k h in omega (arith, l)
      go (Some m) h r = absurd (grind arith)

  origin_past : (k : ℕ) → length (visible before ps) < k → left_origin (visible before ps) k ≡ None
  origin_past zero l = absurd (omega arith)
  origin_past (suc k) l = ap origin_of (slice_get_past (visible before ps) k (omega arith))

  beyond_past : (d : Deed) → (placement before ps x d ≡ beyond) ↔ PastTheText d (length (characters before ps))
  unfolding placement
  beyond_past (deed.Insert c p) = (
    (λ h. let l = no_origin p.at (none_inserted c (left_origin (visible before ps) p.at) h) in omega (arith, l, long)),
    (λ l. ap (inserted_at before ps x c) (origin_past p.at (omega (arith, l, long)))),
  )
  beyond_past (deed.Delete p) = (
    (λ h. let l = nth_none (visible before ps) p.at (none_deleted (slice_get (visible before ps) p.at) h) in omega (arith, l, long)),
    (λ l. ap deleted_at (slice_get_past (visible before ps) p.at (omega (arith, l, long)))),
  )

-- the version of the event itself

struck_part : (v : List Name) (ps : List Placed) (x : Name) → struck (part_of v ps) x ≡ true → struck ps x ≡ true
unfolding targets
struck_part v ps x h =
    let r = from_joined (λ p. target_of p.placement) (part_of v ps) x (has_in (targets (part_of v ps)) x h) in
    in_has (targets ps) x (in_joined (λ p. target_of p.placement) ps r.0 x (member_kept (λ p. has v p.name) ps r.0 r.1).0 r.2)

module _ (before : Name → Name → Bool) (o : Ordered before) (log : NewestFirst) (e : NamedEvent) (u : Distinct (e ∷ log)) where
  abbrev ps : List Placed
  ps = seen before log e.parents

  own_version : version (e ∷ log) (e.name ∷ []) ≡ e.name ∷ version log e.parents
  unfolding version
  own_version =
      rw (same_own e.name) (ap (λ v. e.name ∷ v) (version_same log (e.parents ++ e.name ∷ []) e.parents (λ x h.
      let d = other_event log e u.0 x h in has_append e.parents (e.name ∷ []) x ∙ right_false (has e.parents x) (same e.name x) d)))
    where
      right_false : (a b : Bool) → b ≡ false → (a || (b || false)) ≡ a
      right_false a b q = grind arith

  own_seen : seen before (e ∷ log) (e.name ∷ []) ≡ place before log e ∷ ps
  unfolding seen
  own_seen =
      ap₂ (λ v l. part_of v l) own_version (placements_step before e log)
      ∙ rw (same_own e.name) (ap (λ l. place before log e ∷ l) (kept_like _ _ (placements before log) (all_members _ (placements before log) (λ p i.
      let d = other_event log e u.0 p.name (placed_held before log p i) in rw d))))

  fresh_here : has_node (nodes ps) e.name ≡ false
  unfolding tree_at
  fresh_here = false_from_ne_true (has_node (nodes ps) e.name) (λ h. both_ways _ (fresh_node before e log u.0) (part_has before log e.parents e.name h).0)

  alive_here : struck ps e.name ≡ false
  unfolding seen
  alive_here = false_from_ne_true (struck ps e.name) (λ h. both_ways _ (fresh_struck before e log u.0) (struck_part (version log e.parents) (placements before log) e.name h))

  g : Grown (nodes ps)
  g = grown_seen before log u.1 e.parents

  pub past : (placement_in before log e ≡ beyond) ↔ PastTheText e.deed (length (text_at before log e.parents))
  unfolding placement_in text_at
  past = beyond_past before o ps g e.name fresh_here e.deed

  pub shows : (placement_in before log e ≡ beyond → ⊥) → text_at before (e ∷ log) (e.name ∷ []) ≡ carry_out e (asked e.deed) (text_at before log e.parents)
  unfolding placement_in text_at
  shows h =
      ap (characters before) own_seen
      ∙ (does_placement before o ps g e (placement before ps e.name e.deed) (placement_sound before ps e.name e.deed) fresh_here alive_here
      (λ n q. inserted_character before ps e.name e.deed n q)).0
      ∙ ap (λ d. carry_out e d (characters before ps)) (edit_asked before o ps g e.name fresh_here e.deed h)

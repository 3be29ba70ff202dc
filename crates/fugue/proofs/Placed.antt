-- Placing the events of a log grows a tree, of which every version is a closed part.
use Rattle.std.proofs.Common.{◌≡◌, ℕ, zero, suc, Bool, true, false, cond, List, [], ◌∷◌, ◌++◌, Some, filter, Option, unwrap_or, sym, refl, ap, ◌∙◌, inl, inr}
use Rattle.std.specs.Option.{option_map}
use Rattle.std.specs.List.{flat_map, AllByRecursion, slice_get}
use Rattle.std.proofs.lemmas.Bool.{both_ways, cond_both, or_right, or_left, or_cases}
use Rattle.std.proofs.ByRecursion.{all_kept_by, All-weaker}
use Rattle.std.proofs.lemmas.Bool.{false_from_ne_true}
use Rattle.events.specs.declared.name.Name.{Name}
use Rattle.events.specs.declared.character.Character.{Character}
use Rattle.events.specs.declared.deed.Deed.{Deed}
use Rattle.events.specs.declared.deed.Deed.TheVariants.{Insert, Delete}
use Rattle.events.specs.Parts.{NamedEvent}
use Rattle.fugue.specs.Names.{◌∈◌, same, has, Ordered}
use Rattle.fugue.specs.Logs.{NewestFirst, names, version, Distinct}
use Rattle.fugue.specs.Tree.{Attachment, Node, Tree, sequence, only, AttachedTo, Grown}
use Rattle.fugue.specs.Placements.{Placement, inserted, deleted, beyond, Placed, node_of, nodes, LeftOrigin, start, node, left_origin, right_end_of, after, following, attached_by, part_of, visible, attachment_after, placement, placements, seen, placement_in, tree_at, tree}
use Rattle.fugue.proofs.Lists.{all_member, all_members, kept_twice}
use Rattle.fugue.proofs.Names.{same_name, same_own, has_in, in_has}
use Rattle.fugue.proofs.Grown.{has_node_append, has_node, has_own, attached_like, ClosedPart, only_has, grown_only, inside}
use Rattle.fugue.proofs.Sequences.{all_sequence}
use Rattle.fugue.proofs.Nested.{sequence_part}
use Rattle.fugue.proofs.Versions.{reach, reach_parent, version_cases, version_older, version_held, version_mono}

-- the parts of a placement's definition, by the left origin or target that was found
abbrev pub origin_of : Option Node → Option LeftOrigin
origin_of n = option_map (λ m. node m.name) n

abbrev pub deleted_at : Option Node → Placement
deleted_at n = unwrap_or (option_map (λ m. deleted m.name) n) beyond

abbrev pub inserted_at : (Name → Name → Bool) → List Placed → Name → Character → Option LeftOrigin → Placement
inserted_at before ps x c o = unwrap_or (option_map (λ q. inserted record { name = x; character = c; attachment = attachment_after before (nodes ps) q }) o) beyond

-- a placement has the event's name, and speaks of nodes of the tree
abbrev pub Fitting : Tree → Name → Placement → Type 0
Fitting t x (inserted n) = (n.name ≡ x) × AttachedTo (has_node t) n.attachment
Fitting t x (deleted y) = has_node t y ≡ true
Fitting t x beyond = Unit {0}

all_following : (P : Node → Type 0) (o : LeftOrigin) (s : List Node) → AllByRecursion P s → AllByRecursion P (following o s)
all_following P start s a = a
all_following P (node x) s a = go s a
  where
    go : (s : List Node) → AllByRecursion P s → AllByRecursion P (after x s)
    go [] a = tt
    go (n ∷ s) a = cond_both (same n.name x) s (after x s) (AllByRecursion P) (λ _. a.1) (λ _. go s a.1)

attached_by_lem : (p : Name → Bool) (ks follow : List Node) (q : Attachment) → AllByRecursion (λ n. p n.name ≡ true) follow → AttachedTo p q → AttachedTo p (attached_by ks follow q)
attached_by_lem p [] follow q a h = h
attached_by_lem p (k ∷ ks) [] q a h = h
attached_by_lem p (k ∷ ks) (n ∷ ns) q a h = a.0

-- the left origin is the root or a node of the tree
abbrev pub Origin : (Name → Bool) → LeftOrigin → Type 0
Origin p start = Unit {0}
Origin p (node x) = p x ≡ true

right_end : (p : Name → Bool) (o : LeftOrigin) → Origin p o → AttachedTo p (right_end_of o)
right_end p start h = tt
right_end p (node x) h = h

module _ (before : Name → Name → Bool) where
  pub in_tree : (t : Tree) → AllByRecursion (λ n. has_node t n.name ≡ true) (sequence before t)
  in_tree t = all_sequence before _ t (has_own t)

  pub attachment_inside : (t : Tree) (o : LeftOrigin) → Origin (has_node t) o → AttachedTo (has_node t) (attachment_after before t o)
  unfolding attachment_after
  attachment_inside t o h = attached_by_lem (has_node t) _ _ (right_end_of o) (all_following _ o _ (in_tree t)) (right_end (has_node t) o h)

  insert_sound : (ps : List Placed) (x : Name) (c : Character) (o : LeftOrigin) → Origin (has_node (nodes ps)) o → Fitting (nodes ps) x (inserted_at before ps x c (Some o))
  insert_sound ps x c o h = (refl, attachment_inside (nodes ps) o h)

  pub visible_in : (ps : List Placed) → AllByRecursion (λ n. has_node (nodes ps) n.name ≡ true) (visible before ps)
  unfolding visible
  visible_in ps = all_kept_by _ _ _ (in_tree (nodes ps))

  found_sound : (ps : List Placed) (x : Name) (c : Character) (ns : List Node) (p : ℕ) → AllByRecursion (λ n. has_node (nodes ps) n.name ≡ true) ns
      → Fitting (nodes ps) x (inserted_at before ps x c (origin_of (slice_get ns p)))
  found_sound ps x c [] p a = tt
  found_sound ps x c (n ∷ ns) zero a = insert_sound ps x c (node n.name) a.0
  found_sound ps x c (n ∷ ns) (suc p) a = found_sound ps x c ns p a.1

  strike_sound : (t : Tree) (x : Name) (ns : List Node) (p : ℕ) → AllByRecursion (λ n. has_node t n.name ≡ true) ns → Fitting t x (deleted_at (slice_get ns p))
  strike_sound t x [] p a = tt
  strike_sound t x (n ∷ ns) zero a = a.0
  strike_sound t x (n ∷ ns) (suc p) a = strike_sound t x ns p a.1

  origin_sound : (ps : List Placed) (x : Name) (c : Character) (p : ℕ) → Fitting (nodes ps) x (inserted_at before ps x c (left_origin (visible before ps) p))
  origin_sound ps x c zero = insert_sound ps x c start tt
  origin_sound ps x c (suc p) = found_sound ps x c (visible before ps) p (visible_in ps)

  pub placement_sound : (ps : List Placed) (x : Name) (d : Deed) → Fitting (nodes ps) x (placement before ps x d)
  unfolding placement
  placement_sound ps x (Insert c p) = origin_sound ps x c p.at
  placement_sound ps x (Delete p) = strike_sound (nodes ps) x (visible before ps) p.at (visible_in ps)

-- every placed node has its event's name
abbrev pub Own : List Placed → Type 0
Own ps = AllByRecursion (λ p. (t : Tree) × Fitting t p.name p.placement) ps

pub nodes_part : (v : Name → Bool) (ps : List Placed) → Own ps → nodes (filter (λ p. v p.name) ps) ≡ only v (nodes ps)
unfolding nodes
nodes_part v [] a = refl
nodes_part v (p ∷ ps) a = go p.placement a.0.1 (v p.name) refl (nodes_part v ps a.1)
  where
    ns : List Placed → List Node
    ns l = flat_map (λ q. node_of q.placement) l

    go : (m : Placement) → Fitting a.0.0 p.name m → (b : Bool) → v p.name ≡ b → ns (filter (λ q. v q.name) ps) ≡ only v (ns ps)
        → ns (cond b (record { name = p.name; placement = m } ∷ filter (λ q. v q.name) ps) (filter (λ q. v q.name) ps)) ≡ only v (node_of m ++ ns ps)
    go (inserted n) s true e ih = let q : v n.name ≡ true = ap v s.0 ∙ e in rw q (ap (λ l. n ∷ l) ih)
    go (inserted n) s false e ih = let q : v n.name ≡ false = ap v s.0 ∙ e in rw q ih
    go (deleted y) s true e ih = ih
    go (deleted y) s false e ih = ih
    go beyond s true e ih = ih
    go beyond s false e ih = ih

new_name : (t : Tree) (y : Name) (m : Placement) → Fitting t y m → (x : Name) → has_node (node_of m) x ≡ true → y ≡ x
new_name t y (inserted n) s x h = sym s.0 ∙ same_name n.name x (elim (or_cases _ _ h) [ inl e ↦ e | inr e ↦ absurd (both_ways false refl e) ])
new_name t y (deleted z) s x h = absurd (both_ways false refl h)
new_name t y beyond s x h = absurd (both_ways false refl h)

grown_on : (t older : Tree) (y : Name) (m : Placement) → Fitting t y m → has_node older y ≡ false → ((x : Name) → has_node t x ≡ true → has_node older x ≡ true)
    → Grown older → Grown (node_of m ++ older)
grown_on t older y (inserted n) s f u g = (rw s.0 f, attached_like _ _ u n.attachment s.1, g)
grown_on t older y (deleted z) s f u g = g
grown_on t older y beyond s f u g = g

closed_more : (t older : Tree) (y : Name) (m : Placement) (v w : Name → Bool) → Fitting t y m → has_node older y ≡ false
    → ((x : Name) → has_node older x ≡ true → w x ≡ true → v x ≡ true)
    → ((x : Name) → v x ≡ true → w x ≡ true)
    → (w y ≡ true → (x : Name) → has_node t x ≡ true → w x ≡ true)
    → ClosedPart v older → ClosedPart w (node_of m ++ older)
closed_more t older y (inserted n) v w s f down up new c = (
  (λ h. attached_like _ _ (new (rw s.0 at h)) n.attachment s.1),
  all_members _ older (λ k i h. attached_like v w up k.attachment (all_member _ older k c i (down k.name (all_member _ older k (has_own older) i) h))),
)
closed_more t older y (deleted z) v w s f down up new c =
    all_members _ older (λ k i h. attached_like v w up k.attachment (all_member _ older k c i (down k.name (all_member _ older k (has_own older) i) h)))
closed_more t older y beyond v w s f down up new c =
    all_members _ older (λ k i h. attached_like v w up k.attachment (all_member _ older k c i (down k.name (all_member _ older k (has_own older) i) h)))

module _ (before : Name → Name → Bool) where
  pub own : (log : NewestFirst) → Own (placements before log)
  unfolding placements
  own [] = tt
  own (e ∷ older) =
      let ps = part_of (version older e.parents) (placements before older) in
      ((nodes ps, placement_sound before ps e.name e.deed), own older)

  pub tree_none : tree before [] ≡ []
  unfolding tree placements nodes
  tree_none = refl

  pub tree_step : (e : NamedEvent) (older : NewestFirst) → tree before (e ∷ older) ≡ node_of (placement_in before older e) ++ tree before older
  unfolding tree placements placement_in seen nodes
  tree_step e older = refl

  -- the tree of a version is that part of the log's tree
  pub tree_part : (log : NewestFirst) (heads : List Name) → tree_at before log heads ≡ only (has (version log heads)) (tree before log)
  unfolding tree_at tree seen
  tree_part log heads = nodes_part (has (version log heads)) (placements before log) (own log)

  pub sound_in : (e : NamedEvent) (older : NewestFirst) → Fitting (tree_at before older e.parents) e.name (placement_in before older e)
  unfolding tree_at placement_in
  sound_in e older = placement_sound before (seen before older e.parents) e.name e.deed

  pub part_has : (log : NewestFirst) (heads : List Name) (x : Name) → has_node (tree_at before log heads) x ≡ true
      → (has_node (tree before log) x ≡ true) × (has (version log heads) x ≡ true)
  part_has log heads x h = only_has (has (version log heads)) (tree before log) x (rw (tree_part log heads) at h)

  pub node_held : (log : NewestFirst) (x : Name) → has_node (tree before log) x ≡ true → has (names log) x ≡ true
  node_held [] x h = absurd (both_ways false refl (rw tree_none at h))
  node_held (e ∷ older) x h =
      let m = placement_in before older e in
      elim (or_cases _ _ (sym (has_node_append (node_of m) (tree before older) x) ∙ (rw (tree_step e older) at h))) [
        | inl i ↦ or_left (same e.name x) _ (rw (new_name _ e.name m (sound_in e older) x i) (same_own x))
        | inr i ↦ or_right (same e.name x) _ (node_held older x i)
      ]

  pub fresh_node : (e : NamedEvent) (older : NewestFirst) → has (names older) e.name ≡ false → has_node (tree before older) e.name ≡ false
  fresh_node e older f = false_from_ne_true (has_node (tree before older) e.name) (λ h. both_ways _ f (node_held older e.name h))

  pub grown_log : (log : NewestFirst) → Distinct log → Grown (tree before log)
  grown_log [] u = rw tree_none tt
  grown_log (e ∷ older) u =
      rw (tree_step e older)
      (grown_on (tree_at before older e.parents) (tree before older) e.name (placement_in before older e) (sound_in e older) (fresh_node e older u.0)
      (λ x h. (part_has older e.parents x h).0) (grown_log older u.1))

  pub closed_log : (log : NewestFirst) → Distinct log → (heads : List Name) → ClosedPart (has (version log heads)) (tree before log)
  closed_log [] u heads = rw tree_none tt
  closed_log (e ∷ older) u heads =
      rw (tree_step e older)
      (closed_more (tree_at before older e.parents) (tree before older) e.name (placement_in before older e)
      (has (version older (reach e heads))) (has (version (e ∷ older) heads)) (sound_in e older) (fresh_node e older u.0)
      (λ x h v. elim (version_cases e older heads x v) [
        | inl q ↦ absurd (both_ways _ u.0 (rw q.1 (node_held older x h)))
        | inr q ↦ q
      ])
      (version_older e older heads)
      (λ v x h. elim (version_cases e older heads e.name v) [
        | inl q ↦ version_older e older heads x (version_mono older e.parents (reach e heads) (λ y. reach_parent e heads y q.0) x (part_has older e.parents x h).1)
        | inr q ↦ absurd (both_ways _ u.0 (version_held older (reach e heads) e.name q))
      ])
      (closed_log older u.1 (reach e heads)))

  pub grown_part : (log : NewestFirst) → Distinct log → (heads : List Name) → Grown (tree_at before log heads)
  grown_part log u heads = rw (tree_part log heads) (grown_only (has (version log heads)) (tree before log) (grown_log log u) (closed_log log u heads))

  pub inside_part : (log : NewestFirst) → Distinct log → (heads : List Name) → AllByRecursion (λ n. AttachedTo (has_node (tree_at before log heads)) n.attachment) (tree_at before log heads)
  inside_part log u heads = All-weaker _ _ (λ n h. h.1) (tree_at before log heads) (inside (tree_at before log heads) (grown_part log u heads))

  module _ (o : Ordered before) where
    -- a version's sequence by that of the whole log
    pub sequence_version : (log : NewestFirst) → Distinct log → (heads : List Name)
        → sequence before (tree_at before log heads) ≡ only (has (version log heads)) (sequence before (tree before log))
    sequence_version log u heads =
        ap (sequence before) (tree_part log heads) ∙ sequence_part before o (has (version log heads)) (tree before log) (grown_log log u) (closed_log log u heads)

    pub nested : (log : NewestFirst) → Distinct log → (heads more : List Name) → ((x : Name) → x ∈ version log heads → x ∈ version log more)
        → sequence before (tree_at before log heads) ≡ only (has (version log heads)) (sequence before (tree_at before log more))
    nested log u heads more h =
        sequence_version log u heads
        ∙ sym (ap (only (has (version log heads))) (sequence_version log u more)
        ∙ kept_twice _ _ (sequence before (tree before log))
        (all_members _ (sequence before (tree before log)) (λ n _ v. in_has (version log more) n.name (h n.name (has_in (version log heads) n.name v)))))

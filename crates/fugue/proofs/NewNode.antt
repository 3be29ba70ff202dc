-- Among the nodes of its parents' version a new node comes right after its left origin, in every tree that has them.
use Rattle.std.proofs.Common.{◌≡◌, ℕ, zero, suc, Bool, true, false, not, List, [], ◌∷◌, ◌++◌, Some, filter, sym, refl, ap, ◌∙◌, subst, ap₂, inl, inr, arith}
use Rattle.std.specs.List.{AllByRecursion, slice_get}
use Rattle.events.specs.declared.name.Name.{Name}
use Rattle.events.specs.declared.character.Character.{Character}
use Rattle.events.specs.declared.position.Position.{Position}
use Rattle.events.specs.declared.deed.Deed.TheVariants.{Insert}
use Rattle.events.specs.Parts.{NamedEvent}
use Rattle.fugue.specs.Names.{◌∈◌, Rising, has, Ordered}
use Rattle.fugue.specs.Logs.{NewestFirst, version, Distinct}
use Rattle.fugue.specs.Tree.{Attachment, root, left_of, right_of, Node, Tree, sequence, AttachedTo, Grown}
use Rattle.fugue.specs.Paths.{end, steps_to, steps, path, path_before, precedes}
use Rattle.fugue.specs.Placements.{inserted, LeftOrigin, start, node, left_origin, following, visible, attachment_after, placement, seen, placement_in, tree_at, tree}
use Rattle.fugue.specs.Theorems.{NewNode}
use Rattle.std.proofs.lemmas.Bool.{both_ways}
use Rattle.std.proofs.lemmas.Bool.{false_from_ne_true}
use Rattle.fugue.proofs.Lists.{all_member, all_members, member_kept, in_either, rises_right, rises_across}
use Rattle.fugue.proofs.Grown.{has_node, node_in, node_of_lem}
use Rattle.fugue.proofs.Paths.{stepped, path_irreflexive, path_transitive, by_paths, members}
use Rattle.fugue.proofs.Placed.{origin_of, Origin, attachment_inside, visible_in, tree_step, tree_part, part_has, fresh_node, grown_log, grown_part}
use Rattle.fugue.proofs.Leaf.{leaf}
use Rattle.fugue.proofs.Beside.{up_to, comes_after, up_to_following}

-- a path depends on the nodes that it goes by alone
module _ (a b : Tree) (ga : Grown a) (gb : Grown b) (sub : (n : Node) → n ∈ a → n ∈ b) where
  abbrev Same : Name → Type 0
  Same y = steps a y ≡ steps b y

  by_node : (older : Tree) → AllByRecursion (λ n. Same n.name) older → (y : Name) → has_node older y ≡ true → Same y
  by_node older s y h = let r = node_of_lem older y h in subst Same r.2 (all_member _ older r.0 s r.1)

  to_same : (older : Tree) → AllByRecursion (λ n. Same n.name) older → (q : Attachment) (x : Name) → AttachedTo (has_node older) q → steps_to (steps a) q x ≡ steps_to (steps b) q x
  to_same older s root x h = refl
  to_same older s (left_of y) x h = rw (by_node older s y h)
  to_same older s (right_of y) x h = rw (by_node older s y h)

  steps_same : (older : Tree) → Grown older → ((n : Node) → n ∈ older → n ∈ a) → AllByRecursion (λ n. Same n.name) older
  steps_same [] g in_a = tt
  steps_same (n ∷ older) g in_a =
      let s = steps_same older g.2 (λ m i. in_a m (inr i)) in
      let i = in_a n (inl refl) in
      (all_member _ a n (stepped a ga) i ∙ to_same older s n.attachment n.name g.1 ∙ sym (all_member _ b n (stepped b gb) (sub n i)), s)

  pub path_same : (n : Node) → n ∈ a → path a n.name ≡ path b n.name
  unfolding path
  path_same n i = ap (λ z. z ++ end ∷ []) (all_member _ a n (steps_same a ga (λ m j. j)) i)

-- by the tree of the parents' version
module _ (before : Name → Name → Bool) (o : Ordered before) (seen_tree : Tree) (g : Grown seen_tree) (p : LeftOrigin) (h : Origin (has_node seen_tree) p)
    (x : Name) (c : Character) (f : has_node seen_tree x ≡ false) where
  abbrev pub new : Node
  new = record { name = x; character = c; attachment = attachment_after before seen_tree p }

  abbrev s : List Node
  s = sequence before seen_tree

  pub grown_new : Grown (new ∷ seen_tree)
  grown_new = (f, attachment_inside before seen_tree p h, g)

  pub comes_in : sequence before (new ∷ seen_tree) ≡ up_to p s ++ new ∷ following p s
  comes_in = comes_after before o seen_tree g x c f p h

  module _ (t : Tree) (gt : Grown t) (sub : (n : Node) → n ∈ (new ∷ seen_tree) → n ∈ t) where
    abbrev Before : Node → Node → Type 0
    Before m n = precedes before t m.name n.name ≡ true

    order : (l : List Node) → ((n : Node) → n ∈ l → n ∈ (new ∷ seen_tree)) → Rising (λ m n. precedes before (new ∷ seen_tree) m.name n.name ≡ true) l → Rising Before l
    order [] k r = tt
    order (m ∷ l) k r = (
      all_members _ l (λ n i. sym (ap₂ (path_before before) (own m (k m (inl refl))) (own n (k n (inr i)))) ∙ all_member _ l n r.0 i),
      order l (λ n i. k n (inr i)) r.1,
    )
      where
        own : (n : Node) → n ∈ (new ∷ seen_tree) → path (new ∷ seen_tree) n.name ≡ path t n.name
        own = path_same (new ∷ seen_tree) t grown_new gt sub

    placed : Rising Before (up_to p s ++ new ∷ following p s)
    placed =
        order (up_to p s ++ new ∷ following p s) (λ n i. (members before o (new ∷ seen_tree) grown_new n).0 (rw comes_in i))
        (rw comes_in at (by_paths before o (new ∷ seen_tree) grown_new))

    earlier : (m : Node) → m ∈ up_to p s → precedes before t m.name x ≡ not (has_node (following p s) m.name)
    earlier m i =
        rises_across Before (up_to p s) (new ∷ following p s) placed m new i (inl refl)
        ∙ sym (ap not (false_from_ne_true (has_node (following p s) m.name) (λ q.
        let k = node_of_lem (following p s) m.name q in
        let b = rises_across Before (up_to p s) (new ∷ following p s) placed m k.0 i (inr k.1) in
        both_ways _ (path_irreflexive before o (path t m.name)) (rw k.2 at b))))

    later : (m : Node) → m ∈ following p s → precedes before t m.name x ≡ not (has_node (following p s) m.name)
    later m i =
        false_from_ne_true (precedes before t m.name x) (λ q.
        let b = all_member _ (following p s) m (rises_right Before (up_to p s) (new ∷ following p s) placed).0 i in
        both_ways _ (path_irreflexive before o (path t x)) (path_transitive before o (path t x) (path t m.name) (path t x) b q))
        ∙ sym (ap not (node_in (following p s) m i))

    pub among : AllByRecursion (λ m. precedes before t m.name x ≡ not (has_node (following p s) m.name)) s
    among = all_members _ s (λ m i. elim (in_either (up_to p s) (following p s) m (rw (up_to_following p s) at i)) [ inl j ↦ earlier m j | inr j ↦ later m j ])

-- by the log
pub origin_in : (t : Tree) (ns : List Node) → AllByRecursion (λ n. has_node t n.name ≡ true) ns → (p : ℕ) (q : LeftOrigin) → left_origin ns p ≡ Some q → Origin (has_node t) q
origin_in t ns a zero start e = tt
origin_in t ns a zero (node y) e = absurd (grind arith)
origin_in t ns a (suc p) start e = tt
origin_in t ns a (suc p) (node y) e = go ns a p e
  where
    go : (ns : List Node) → AllByRecursion (λ n. has_node t n.name ≡ true) ns → (p : ℕ) → origin_of (slice_get ns p) ≡ Some (node y) → has_node t y ≡ true
    go [] a p e = absurd (grind arith)
    go (n ∷ ns) a zero e = let z : n.name ≡ y = cc in rw z at a.0
    go (n ∷ ns) a (suc p) e = go ns a.1 p e

module _ (before : Name → Name → Bool) (o : Ordered before) (log : NewestFirst) (e : NamedEvent) (u : Distinct (e ∷ log)) (c : Character) (p : Position)
    (d : e.deed ≡ Insert c p) (q : LeftOrigin) (found : left_origin (visible before (seen before log e.parents)) p.at ≡ Some q) where
  abbrev parents : Tree
  parents = tree_at before log e.parents

  abbrev node' : Node
  node' = record { name = e.name; character = c; attachment = attachment_after before parents q }

  is_placed : placement_in before log e ≡ inserted node'
  unfolding placement_in placement tree_at
  is_placed = rw (d, found)

  tree_new : tree before (e ∷ log) ≡ node' ∷ tree before log
  tree_new = tree_step before e log ∙ rw is_placed

  origin : Origin (has_node parents) q
  unfolding tree_at
  origin = origin_in parents (visible before (seen before log e.parents)) (visible_in before (seen before log e.parents)) p.at q found

  fresh_parents : has_node parents e.name ≡ false
  fresh_parents = false_from_ne_true (has_node parents e.name) (λ h. both_ways _ (fresh_node before e log u.0) (part_has before log e.parents e.name h).0)

  sub : (n : Node) → n ∈ (node' ∷ parents) → n ∈ tree before (e ∷ log)
  sub n (inl f) = rw tree_new (inl f)
  sub n (inr i) = rw tree_new (inr (member_kept (λ m. has (version log e.parents) m.name) (tree before log) n (rw (tree_part before log e.parents) at i)).0)

  abbrev Comes : Tree → Type 0
  Comes t =
      sequence before t
      ≡ filter (λ m. precedes before t m.name e.name) (sequence before (tree before log))
      ++ node' ∷ filter (λ m. not (precedes before t m.name e.name)) (sequence before (tree before log))

  pub new_node_lem : NewNode before log e c q
  new_node_lem = record {
    node = node';
    is = is_placed;
    parts = (refl, refl, refl);
    comes = subst Comes (sym tree_new) (leaf before o node' (tree before log) (rw tree_new at (grown_log before (e ∷ log) u)));
    among = among before o parents (grown_part before log u.1 e.parents) q origin e.name c fresh_parents (tree before (e ∷ log)) (grown_log before (e ∷ log) u) sub;
  }

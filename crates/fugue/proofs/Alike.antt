-- Text and placement depend on which events are placed, not on their order.
use Rattle.std.proofs.Common.{◌≡◌, Bool, cond, not, List, ◌∷◌, map, length, Some, None, filter, Option, refl, ap, ◌∙◌, ap₂, inl, inr}
use mathlib.Core.Path.{fun_ext}
use Rattle.std.specs.List.{flat_map, slice_get}
use Rattle.events.specs.declared.name.Name.{Name}
use Rattle.events.specs.declared.character.Character.{Character}
use Rattle.events.specs.declared.deed.Deed.{Deed}
use Rattle.events.specs.declared.deed.Deed.TheVariants.{Insert, Delete}
use Rattle.fugue.specs.declared.edit.Edit.TheVariants as edit
use Rattle.fugue.specs.Names.{◌∈◌, Ordered}
use Rattle.fugue.proofs.Lists.{Alike, in_joined, from_joined}
use Rattle.fugue.specs.Tree.{Node, Tree, sequence, Grown}
use Rattle.fugue.specs.Placements.{Placement, inserted, deleted, beyond, Placed, node_of, target_of, nodes, targets, struck, LeftOrigin, left_origin, right_end_of, following, attached_by, visible, attachment_after, placement, characters}
use Rattle.fugue.specs.Edits.{in_front_of, edit_of}
use Rattle.fugue.proofs.Names.{has_alike}
use Rattle.fugue.proofs.Placed.{deleted_at, inserted_at}
use Rattle.fugue.proofs.Sequences.{sequence_alike, children_same}

alike_joined : {X Y : Type 0} (f : X → List Y) (xs ys : List X) → Alike xs ys → Alike (flat_map f xs) (flat_map f ys)
alike_joined f xs ys h y = (
  (λ i. let r = from_joined f xs y i in in_joined f ys r.0 y ((h r.0).0 r.1) r.2),
  (λ i. let r = from_joined f ys y i in in_joined f xs r.0 y ((h r.0).1 r.1) r.2),
)

alike_more : (n : Node) (t u : Tree) → Alike t u → Alike (n ∷ t) (n ∷ u)
alike_more n t u h m = (more t u (λ k. (h k).0) m, more u t (λ k. (h k).1) m)
  where
    more : (t u : Tree) → ((k : Node) → k ∈ t → k ∈ u) → (m : Node) → m ∈ (n ∷ t) → m ∈ (n ∷ u)
    more t u s m (inl e) = inl e
    more t u s m (inr i) = inr (s m i)

module _ (before : Name → Name → Bool) (o : Ordered before) (ps qs : List Placed) (g : Grown (nodes ps)) (f : Grown (nodes qs)) (h : Alike ps qs) where
  nodes_alike : Alike (nodes ps) (nodes qs)
  unfolding nodes
  nodes_alike = alike_joined (λ p. node_of p.placement) ps qs h

  struck_same : struck ps ≡ struck qs
  unfolding targets
  struck_same =
      let a = alike_joined (λ p. target_of p.placement) ps qs h in
      fun_ext (has_alike (targets ps) (targets qs) (λ x. (a x).0) (λ x. (a x).1))

  sequence_same : sequence before (nodes ps) ≡ sequence before (nodes qs)
  sequence_same = sequence_alike before o (nodes ps) (nodes qs) nodes_alike g f

  visible_same : visible before ps ≡ visible before qs
  unfolding visible
  visible_same = ap₂ (λ p s. filter (λ n. not (p n.name)) s) struck_same sequence_same

  pub characters_same : characters before ps ≡ characters before qs
  unfolding characters
  characters_same = ap (map (λ n. n.character)) visible_same

  attachment_same : (p : LeftOrigin) → attachment_after before (nodes ps) p ≡ attachment_after before (nodes qs) p
  unfolding attachment_after
  attachment_same p =
      ap₂ (λ l s. attached_by l (following p s) (right_end_of p)) (children_same before o (nodes ps) (nodes qs) nodes_alike g f (right_end_of p)) sequence_same

  insert_same : (x : Name) (c : Character) (p : Option LeftOrigin) → inserted_at before ps x c p ≡ inserted_at before qs x c p
  insert_same x c None = refl
  insert_same x c (Some p) = ap (λ w. inserted record { name = x; character = c; attachment = w }) (attachment_same p)

  pub placement_same : (x : Name) (d : Deed) → placement before ps x d ≡ placement before qs x d
  unfolding placement
  placement_same x (Insert c p) = insert_same x c (left_origin (visible before ps) p.at) ∙ ap (λ s. inserted_at before qs x c (left_origin s p.at)) visible_same
  placement_same x (Delete p) = ap (λ s. deleted_at (slice_get s p.at)) visible_same

  -- with the new node, if there is one, both trees are grown
  pub edit_same : (m : Placement) → ((n : Node) → m ≡ inserted n → Grown (n ∷ nodes ps) × Grown (n ∷ nodes qs)) → edit_of before ps m ≡ edit_of before qs m
  edit_same (inserted n) k =
      let r = k n refl in
      ap₂ (λ p s. edit.Insert (length (filter (λ j. not (p j.name)) (in_front_of n.name s)))) struck_same
      (sequence_alike before o (n ∷ nodes ps) (n ∷ nodes qs) (alike_more n (nodes ps) (nodes qs) nodes_alike) r.0 r.1)
  edit_same (deleted y) k =
      ap₂ (λ p s. cond (p y) edit.Nothing (edit.Delete (length (filter (λ j. not (p j.name)) (in_front_of y s))))) struck_same sequence_same
  edit_same beyond k = refl

-- Induction along a grown tree, from what a node hangs on to the node.
use Rattle.std.proofs.Common.{◌≡◌, true, [], ◌∷◌, refl, subst, inl, inr}
use Rattle.std.specs.List.{AllByRecursion}
use Rattle.events.specs.declared.name.Name.{Name}
use Rattle.fugue.specs.Names.{◌∈◌}
use Rattle.fugue.specs.Tree.{Attachment, root, left_of, right_of, Node, Tree, AttachedTo, has_node, Grown}
use Rattle.fugue.proofs.Grown.{node_of_lem}
use Rattle.fugue.proofs.Lists.{all_member}

abbrev pub Hangs : (Name → Type 0) → Attachment → Type 0
Hangs P root = Unit {0}
Hangs P (left_of y) = P y
Hangs P (right_of y) = P y

module _ (P : Name → Type 0) where
  from_all : (t : Tree) → AllByRecursion (λ n. P n.name) t → (y : Name) → has_node t y ≡ true → P y
  from_all t a y h = let r = node_of_lem t y h in subst P r.2 (all_member _ t r.0 a r.1)

  hangs_all : (t : Tree) → AllByRecursion (λ n. P n.name) t → (q : Attachment) → AttachedTo (has_node t) q → Hangs P q
  hangs_all t a root h = tt
  hangs_all t a (left_of y) h = from_all t a y h
  hangs_all t a (right_of y) h = from_all t a y h

  module _ (t : Tree) (step : (n : Node) → n ∈ t → Hangs P n.attachment → P n.name) where
    each : (older : Tree) → Grown older → ((n : Node) → n ∈ older → n ∈ t) → AllByRecursion (λ n. P n.name) older
    each [] g sub = tt
    each (n ∷ older) g sub =
        let a = each older g.2 (λ m i. sub m (inr i)) in
        (step n (sub n (inl refl)) (hangs_all older a n.attachment g.1), a)

    pub along : Grown t → (y : Name) → has_node t y ≡ true → P y
    along g y h = from_all t (each t g (λ n i. i)) y h

-- The nodes' tree is the one that they hold, and the shape of an index says that they hold it.
use Rattle.std.proofs.Common.{◌≡◌, ℕ, zero, suc, ◌+◌, ◌<◌, ◌≤◌, true, ◌&&◌, leb, List, [], ◌∷◌, ◌++◌, map, length, Some, None, Option, sym, refl, ap, ◌∙◌, subst, arith, length-append, le-leb, leb-true}
use lib.ListN.{length-map}
use Rattle.std.specs.List.{slice_get}
use Rattle.std.proofs.lemmas.List.{map-append}
use Rattle.std.proofs.lemmas.Bool.{and_parts, and_from}
use Rattle.indexes.specs.Laws.{Distinct, Apart}
use Rattle.indexes.proofs.Apart.{apart, distinct}
use Rattle.avl_tree.specs.declared.node.Node.{Node}
use Rattle.avl_tree.specs.Nodes.{cell, Holds, Held}
use Rattle.avl_tree.specs.Shape.{grown, tree_of, cells, member, even, Rooted, Stored, Covered}
use Rattle.avl_tree.specs.Tree.{Tree, leaf, node, numbers, size, height, top, Even}
use Rattle.avl_tree.proofs.Sizes.{sane}

-- followed deep enough, the nodes of a tree give the tree
pub grown_is : (ns : List Node) (p : Option ℕ) (t : Tree) (d : ℕ) → height t ≤ d → Holds ns p t → grown d ns (top t) ≡ t
unfolding grown
grown_is ns p leaf zero deep h = refl
grown_is ns p leaf (suc d) deep h = refl
grown_is ns p (node l i e r) zero deep h = absurd (omega arith)
grown_is ns p (node l i e r) (suc d) deep h =
    let a = grown_is ns (Some i) l d (omega arith) h.1 in
    let b = grown_is ns (Some i) r d (omega arith) h.2 in
    let at = ap (λ x. elim x [ None ↦ leaf | Some n ↦ node (grown d ns n.left) i n.entry (grown d ns n.right) ]) h.0 in
    at ∙ ap (λ x. node x i e (grown d ns (top r))) a ∙ ap (λ x. node l i e x) b

pub length_cells : (p : Option ℕ) (t : Tree) → length (cells p t) ≡ length (numbers t)
length_cells p leaf = refl
length_cells p (node l i e r) =
    let a = length_cells (Some i) l in
    let b = length_cells (Some i) r in
    omega (arith, a, b, length-append (cells (Some i) l) (cell p l e r ∷ cells (Some i) r), length-append (numbers l) (i ∷ numbers r))

-- two joined lists of which the first parts are as long
split_same : {X : Type 0} (cs bs xs ys : List X) → length cs ≡ length bs → cs ++ xs ≡ bs ++ ys → (cs ≡ bs) × (xs ≡ ys)
split_same [] [] xs ys long e = (refl, e)
split_same [] (b ∷ bs) xs ys long e = absurd (omega (arith, long))
split_same (a ∷ cs) [] xs ys long e = absurd (omega (arith, long))
split_same (a ∷ cs) (b ∷ bs) xs ys long e =
    let tails : cs ++ xs ≡ bs ++ ys = cc in
    let heads : a ≡ b = cc in
    let rest = split_same cs bs xs ys (omega (arith, long)) tails in
    (ap (λ x. x ∷ cs) heads ∙ ap (λ zs. b ∷ zs) rest.0, rest.1)

pub holds_cells : (ns : List Node) (p : Option ℕ) (t : Tree) → Holds ns p t → map (slice_get ns) (numbers t) ≡ map Some (cells p t)
holds_cells ns p leaf h = refl
holds_cells ns p (node l i e r) h =
    map-append (slice_get ns) (numbers l) (i ∷ numbers r) ∙ ap (λ xs. xs ++ slice_get ns i ∷ map (slice_get ns) (numbers r)) (holds_cells ns (Some i) l h.1) ∙ ap (λ x. map Some (cells (Some i) l) ++ x ∷ map (slice_get ns) (numbers r)) h.0 ∙ ap (λ xs. map Some (cells (Some i) l) ++ Some (cell p l e r) ∷ xs) (holds_cells ns (Some i) r h.2) ∙ sym (map-append Some (cells (Some i) l) (cell p l e r ∷ cells (Some i) r))

pub cells_hold : (ns : List Node) (p : Option ℕ) (t : Tree) → map (slice_get ns) (numbers t) ≡ map Some (cells p t) → Holds ns p t
cells_hold ns p leaf e = tt
cells_hold ns p (node l i e r) same =
    let both = sym (map-append (slice_get ns) (numbers l) (i ∷ numbers r)) ∙ same ∙ map-append Some (cells (Some i) l) (cell p l e r ∷ cells (Some i) r) in
    let long : length (map (slice_get ns) (numbers l)) ≡ length (map Some (cells (Some i) l)) = length-map (numbers l) (slice_get ns) ∙ sym (length_cells (Some i) l) ∙ sym (length-map (cells (Some i) l) Some) in
    let s = split_same (map (slice_get ns) (numbers l)) (map Some (cells (Some i) l)) (slice_get ns i ∷ map (slice_get ns) (numbers r)) (Some (cell p l e r) ∷ map Some (cells (Some i) r)) long both in
    let rest = s.1 in
    let head : slice_get ns i ≡ Some (cell p l e r) = cc in
    let tail : map (slice_get ns) (numbers r) ≡ map Some (cells (Some i) r) = cc in
    (head, cells_hold ns (Some i) l s.0, cells_hold ns (Some i) r tail)

pub even_is : (t : Tree) → even t ≡ true → Even t
even_is leaf e = tt
even_is (node l i x r) e =
    let a = and_parts (leb (height l) (height r + 1) && leb (height r) (height l + 1) && even l) (even r) e in
    let b = and_parts (leb (height l) (height r + 1) && leb (height r) (height l + 1)) (even l) a.0 in
    let c = and_parts (leb (height l) (height r + 1)) (leb (height r) (height l + 1)) b.0 in
    (leb-true _ _ c.0, leb-true _ _ c.1, even_is l b.1, even_is r a.1)

pub is_even : (t : Tree) → Even t → even t ≡ true
is_even leaf v = refl
is_even (node l i x r) v =
    and_from (leb (height l) (height r + 1) && leb (height r) (height l + 1) && even l) (even r) (and_from (leb (height l) (height r + 1) && leb (height r) (height l + 1)) (even l) (and_from (leb (height l) (height r + 1)) (leb (height r) (height l + 1)) (le-leb _ _ v.0) (le-leb _ _ v.1)) (is_even l v.2)) (is_even r v.3)

-- what the nodes of an index hold
pub record Whole (ns : List Node) (root : Option ℕ) (t : Tree) : Type 0 where
  pub at : root ≡ top t
  pub holds : Holds ns None t
  pub apart_all : Apart (numbers t)
  pub covers : (k : ℕ) → k < length ns → member k (numbers t) ≡ true
  pub sized : size t ≡ length ns
  pub evenly : Even t

pub whole : (ns : List Node) (root : Option ℕ) → Rooted ns root → Stored ns root → Distinct (numbers (tree_of ns root)) → Covered ns root → size (tree_of ns root) ≡ length ns → even (tree_of ns root) ≡ true → Whole ns root (tree_of ns root)
whole ns root a b c d e f =
    record {
      at = a;
      holds = cells_hold ns None (tree_of ns root) b;
      apart_all = apart (numbers (tree_of ns root)) c;
      covers = d;
      sized = e;
      evenly = even_is (tree_of ns root) f;
    }

pub tree_is : (ns : List Node) (root : Option ℕ) (t : Tree) → Whole ns root t → tree_of ns root ≡ t
tree_is ns root t w =
    ap (grown (length ns) ns) w.at ∙ grown_is ns None t (length ns) (omega (arith, (sane t).tall, w.sized)) w.holds

-- and back
pub record Shaped (ns : List Node) (root : Option ℕ) : Type 0 where
  pub rooted : Rooted ns root
  pub stored : Stored ns root
  pub apart_all : Distinct (numbers (tree_of ns root))
  pub covered : Covered ns root
  pub sized : size (tree_of ns root) ≡ length ns
  pub balanced : even (tree_of ns root) ≡ true

pub shaped : (ns : List Node) (root : Option ℕ) (t : Tree) → Whole ns root t → Shaped ns root
shaped ns root t w =
    let e = sym (tree_is ns root t w) in
    record {
      rooted = w.at ∙ ap top e;
      stored = subst (λ u. map (slice_get ns) (numbers u) ≡ map Some (cells None u)) e (holds_cells ns None t w.holds);
      apart_all = subst (λ u. Distinct (numbers u)) e (distinct (numbers t) w.apart_all);
      covered = λ k within. ap (λ u. member k (numbers u)) (sym e) ∙ w.covers k within;
      sized = ap size (sym e) ∙ w.sized;
      balanced = ap even (sym e) ∙ is_even t w.evenly;
    }

pub held_whole : (ns : List Node) (root : Option ℕ) (t : Tree) → Whole ns root t → Held ns root t
held_whole ns root t w = record { above = None; at = w.at; holds = w.holds }

-- The node at a link, read.
use Rattle.std.proofs.Common.{◌≡◌, ℕ, zero, suc, ◌<◌, ◌≤◌, List, [], ◌∷◌, get_or, Some, None, Option, sym, refl, ap, ◌∙◌, subst, arith}
use Rattle.indexes.specs.Laws.{Apart}
use Rattle.std.specs.List.{slice_get}
use Rattle.indexes.specs.declared.entry.Entry.{Entry}
use Rattle.indexes.specs.declared.entry.Effect.TheVariants.{Present}
use Rattle.indexes.specs.declared.entry.Attachment.TheVariants.{Root}
use Rattle.avl_tree.specs.declared.node.Node.{Node}
use Rattle.avl_tree.specs.Nodes.{cell, Holds, Held, Sides}
use Rattle.avl_tree.specs.Tree.{Tree, leaf, node, numbers, size, weight}
use Rattle.avl_tree.proofs.Cells.{read_is}

-- the node that a read of a slice gives; nothing is read past the end
abbrev pub node_at : List Node → ℕ → Node
node_at ns i =
    get_or ns i record {
      entry = record { character = 0; prepared = 0; effect = Present; attachment = Root };
      left = None;
      right = None;
      parent = None;
      weight = record { height = 0; size = 0; prepared = 0; present = 0 };
    }

pub read_again : {X : Type 0} (xs : List X) (i : ℕ) (x : X) → get_or xs i x ≡ get_or xs i (get_or xs i x)
read_again [] i x = refl
read_again (y ∷ ys) zero x = refl
read_again (y ∷ ys) (suc i) x = read_again ys i x

pub read_at : (ns : List Node) (i : ℕ) → node_at ns i ≡ get_or ns i (node_at ns i)
read_at ns i = read_again ns i _

-- a tree at the link of a node has that node for its root, and the node is its cell
pub record Rooted (ns : List Node) (t : Tree) (i : ℕ) (n : Node) : Type 0 where
  pub lower : Tree
  pub entry : Entry
  pub upper : Tree
  pub above : Option ℕ
  pub is : t ≡ node lower i entry upper
  pub cell_is : n ≡ cell above lower entry upper
  pub holds : Holds ns above (node lower i entry upper)

pub rooted : (ns : List Node) (link : Option ℕ) (t : Tree) → Held ns link t → (i : ℕ) (n : Node) → link ≡ Some i → n ≡ get_or ns i n → Rooted ns t i n
rooted ns link leaf h i n is read =
    let z : None ≡ Some i = sym h.at ∙ is in
    cc
rooted ns link (node l k e r) h i n is read =
    let s : Some k ≡ Some i = sym h.at ∙ is in
    let same : k ≡ i = cc in
    record {
      lower = l;
      entry = e;
      upper = r;
      above = h.above;
      is = ap (λ m. node l m e r) same;
      cell_is = read_is ns i (cell h.above l e r) n (subst (λ m. slice_get ns m ≡ Some (cell h.above l e r)) same h.holds.0) read;
      holds = subst (λ m. Holds ns h.above (node l m e r)) same h.holds;
    }

-- the same of the node that the code reads
pub opened : {ns : List Node} {link : Option ℕ} {t : Tree} {i : ℕ} → Held ns link t → link ≡ Some i → Rooted ns t i (node_at ns i)
opened {ns = ns} {link = link} {t = t} {i = i} h is = rooted ns link t h i (node_at ns i) is (read_at ns i)

pub weight_read : (ns : List Node) (link : Option ℕ) (t : Tree) → Held ns link t → (i : ℕ) (n : Node) → link ≡ Some i → n ≡ get_or ns i n → n.weight ≡ weight t
weight_read ns link t h i n is read =
    let r = rooted ns link t h i n is read in
    ap (λ (m : Node). m.weight) r.cell_is ∙ sym (ap weight r.is)

-- the size that the node at a link has stored
abbrev pub loaded : Option Node → ℕ
loaded None = 0
loaded (Some n) = n.weight.size

abbrev pub load : List Node → Option ℕ → ℕ
load ns None = 0
load ns (Some i) = loaded (slice_get ns i)

pub load_is : (ns : List Node) (link : Option ℕ) (t : Tree) → Held ns link t → load ns link ≡ size t
load_is ns link leaf h = ap (load ns) h.at
load_is ns link (node l i e r) h = ap (load ns) h.at ∙ ap loaded h.holds.0

pub lefts : {ns : List Node} {t : Tree} {i : ℕ} {n : Node} → (o : Rooted ns t i n) → Held ns n.left o.lower
lefts {i = i} o = record { above = Some i; at = ap (λ (m : Node). m.left) o.cell_is; holds = o.holds.1 }

pub rights : {ns : List Node} {t : Tree} {i : ℕ} {n : Node} → (o : Rooted ns t i n) → Held ns n.right o.upper
rights {i = i} o = record { above = Some i; at = ap (λ (m : Node). m.right) o.cell_is; holds = o.holds.2 }

-- the sides of a tree that was read
pub sides_of : {ns : List Node} {t : Tree} {i : ℕ} {n : Node} → (o : Rooted ns t i n) → Apart (numbers t) → size t ≤ 65536 → Sides ns n.left n.right o.lower i o.entry o.upper
sides_of o apart small =
    record {
      lower = lefts o;
      upper = rights o;
      old = cell o.above o.lower o.entry o.upper;
      at = o.holds.0;
      entry_is = refl;
      apart = subst (λ t. Apart (numbers t)) o.is apart;
      small = omega (arith, ap size o.is, small);
    }

-- what is stored falls on the way down
pub falls_left : {ns : List Node} {link : Option ℕ} {t : Tree} {i : ℕ} {n : Node} → Held ns link t → (o : Rooted ns t i n) → load ns n.left < load ns link
falls_left {ns = ns} {link = link} {t = t} {n = n} h o =
    omega (arith, load_is ns link t h, load_is ns n.left o.lower (lefts o), ap size o.is)

pub falls_right : {ns : List Node} {link : Option ℕ} {t : Tree} {i : ℕ} {n : Node} → Held ns link t → (o : Rooted ns t i n) → load ns n.right < load ns link
falls_right {ns = ns} {link = link} {t = t} {n = n} h o =
    omega (arith, load_is ns link t h, load_is ns n.right o.upper (rights o), ap size o.is)

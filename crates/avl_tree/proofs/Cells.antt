-- Nodes by number: what a write changes, and that a tree is held as long as its own nodes stay.
use Rattle.std.proofs.Common.{◌≡◌, ℕ, zero, suc, ◌<◌, List, [], ◌∷◌, length, get_or, set, Some, Option, refl, ap, ◌∙◌, arith}
use Rattle.std.proofs.lemmas.Option.{get_or_from_slice_get}
use Rattle.std.specs.List.{AllByRecursion, slice_get}
use Rattle.std.proofs.ByRecursion.{All-weaker}
use Rattle.indexes.specs.Laws.{Away}
use Rattle.avl_tree.specs.declared.node.Node.{Node}
use Rattle.avl_tree.specs.Nodes.{altered, Holds, Held, Kept, held_entries}
use Rattle.avl_tree.specs.Tree.{Tree, leaf, node, numbers}
use Rattle.avl_tree.proofs.Lists.{all_left, all_right, Disjoint}

-- what was read is what is there
pub read_is : {X : Type 0} (xs : List X) (i : ℕ) (x y : X) → slice_get xs i ≡ Some x → y ≡ get_or xs i y → y ≡ x
read_is xs i x y is read = read ∙ get_or_from_slice_get xs i x y is

pub length_altered : (f : Node → Node) (ns : List Node) (i : ℕ) → length (altered f ns i) ≡ length ns
length_altered f [] i = refl
length_altered f (n ∷ ns) zero = refl
length_altered f (n ∷ ns) (suc i) = ap suc (length_altered f ns i)

pub altered_same : (f : Node → Node) (ns : List Node) (i : ℕ) (n : Node) → slice_get ns i ≡ Some n → slice_get (altered f ns i) i ≡ Some (f n)
altered_same f [] i n is = cc
altered_same f (m ∷ ns) zero n is = let e : m ≡ n = cc in ap (λ x. Some (f x)) e
altered_same f (m ∷ ns) (suc i) n is = altered_same f ns i n is

pub altered_other : (f : Node → Node) (ns : List Node) (i k : ℕ) → (k ≡ i → ⊥) → slice_get (altered f ns i) k ≡ slice_get ns k
altered_other f [] i k ne = refl
altered_other f (m ∷ ns) zero zero ne = absurd (ne refl)
altered_other f (m ∷ ns) zero (suc k) ne = refl
altered_other f (m ∷ ns) (suc i) zero ne = refl
altered_other f (m ∷ ns) (suc i) (suc k) ne = altered_other f ns i k (λ e. ne (ap suc e))

-- the write of a changed node
pub set_altered : (f : Node → Node) (ns : List Node) (i : ℕ) (n : Node) → i < length ns → n ≡ get_or ns i n → set ns i (f n) ≡ altered f ns i
set_altered f [] i n within read = refl
set_altered f (m ∷ ns) zero n within read = ap (λ (x : Node). f x ∷ ns) read
set_altered f (m ∷ ns) (suc i) n within read = ap (λ xs. m ∷ xs) (set_altered f ns i n (omega arith) read)

pub entries_altered : (f : Node → Node) → ((n : Node) → (f n).entry ≡ n.entry) → (ns : List Node) (i : ℕ) → held_entries (altered f ns i) ≡ held_entries ns
entries_altered f keeps [] i = refl
entries_altered f keeps (n ∷ ns) zero = ap (λ e. e ∷ held_entries ns) (keeps n)
entries_altered f keeps (n ∷ ns) (suc i) = ap (λ es. n.entry ∷ es) (entries_altered f keeps ns i)

pub holds_same : (ns ms : List Node) (p : Option ℕ) (t : Tree) → AllByRecursion (λ k. slice_get ms k ≡ slice_get ns k) (numbers t) → Holds ns p t → Holds ms p t
holds_same ns ms p leaf same h = tt
holds_same ns ms p (node l i e r) same h =
    let P : ℕ → Type 0 = λ k. slice_get ms k ≡ slice_get ns k in
    let right = all_right P (numbers l) (i ∷ numbers r) same in
    (right.0 ∙ h.0, holds_same ns ms (Some i) l (all_left P (numbers l) (i ∷ numbers r) same) h.1, holds_same ns ms (Some i) r right.1 h.2)

-- a tree none of whose nodes was changed
pub held_kept : (ns ms : List Node) (link : Option ℕ) (t : Tree) (is : List ℕ) → Kept ns ms is → Disjoint (numbers t) is → Held ns link t → Held ms link t
held_kept ns ms link t is kept off h =
    record {
      above = h.above;
      at = h.at;
      holds = holds_same ns ms h.above t (All-weaker (λ k. Away k is) (λ k. slice_get ms k ≡ slice_get ns k) kept (numbers t) off) h.holds;
    }

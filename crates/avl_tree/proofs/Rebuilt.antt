-- Entries laid out as nodes, and the tree built of them.
use Rattle.std.proofs.Common.{◌≡◌, ℕ, zero, suc, ◌+◌, ◌<◌, ◌≤◌, true, eqb, List, [], ◌∷◌, ◌++◌, map, length, get_or, take, set, Some, None, Option, sym, refl, ap, ◌∙◌, subst, inl, inr, arith, eq-eqb}
use Rattle.std.proofs.lemmas.Option.{slice_get_within, get_or_from_slice_get}
use lib.ListN.{length-map}
use Rattle.std.specs.List.{slice_get}
use Rattle.std.proofs.lemmas.List.{map-append, take_more, take-map, get_or-map, get_or-take, length-take-le}
use Rattle.std.proofs.lemmas.Bool.{or_left, or_right, cases_lt}
use Rattle.indexes.specs.Laws.{Distinct, Apart}
use Rattle.indexes.specs.Questions.{characters}
use Rattle.indexes.specs.declared.entry.Entry.{Entry}
use Rattle.avl_tree.specs.declared.node.Node.{Node}
use Rattle.avl_tree.specs.Builds.{range, Builds}
use Rattle.avl_tree.specs.Nodes.{cell, Holds, adopted, held_entries}
use Rattle.avl_tree.specs.Shape.{member, Named}
use Rattle.avl_tree.specs.Tree.{Tree, leaf, node, entries, numbers}
use Rattle.avl_tree.proofs.Builds.{same_length}
use Rattle.avl_tree.proofs.Grown.{Whole}
use Rattle.avl_tree.proofs.Inserted.{Leads, leads_more}
use Rattle.avl_tree.proofs.Names.{nth_map}
use Rattle.avl_tree.proofs.Ranges.{length_range, apart_range, nth_range}
use Rattle.avl_tree.proofs.Sizes.{size_numbers}
use Rattle.avl_tree.proofs.Ties.{adopt_self, length_adopted}

-- in a list without doubles an element is not among those before it
fresh : (cs : List ℕ) (i : ℕ) → Distinct cs → i < length cs → (k : ℕ) → slice_get (take i cs) k ≡ Some (get_or cs i 0) → ⊥
fresh cs i distinct within k is =
    let low = slice_get_within (take i cs) k (get_or cs i 0) is in
    let lt : k < i = omega (arith, low, length-take-le i cs (omega (arith, within))) in
    distinct k i lt within (sym (get_or-take i cs k 0 lt) ∙ get_or_from_slice_get (take i cs) k (get_or cs i 0) 0 is)

-- one entry more is laid out
pub laid_more : (es : List Entry) (ns : List Node) (i : ℕ) (e : Entry) (n : Node) → i < length es → e ≡ get_or es i e → n.entry ≡ e → held_entries ns ≡ take i es → held_entries (ns ++ n ∷ []) ≡ take (i + 1) es
laid_more es ns i e n within read is laid =
    map-append (λ (m : Node). m.entry) ns (n ∷ []) ∙ ap (λ xs. xs ++ n.entry ∷ []) laid ∙ ap (λ x. take i es ++ x ∷ []) (is ∙ read) ∙ sym (take_more es i e within)

pub names_more : (es : List Entry) (ns : List Node) (dir : List ℕ) (i : ℕ) (e : Entry) (n : Node) → Distinct (characters es) → i < length es → e ≡ get_or es i e → n.entry ≡ e → held_entries ns ≡ take i es → e.character < length dir → Named ns dir → Named (ns ++ n ∷ []) (set dir e.character i)
names_more es ns dir i e n distinct within read is laid wide named =
    let cs = characters es in
    let ch = λ (x : Entry). x.character in
    let so_far : characters (held_entries ns) ≡ take i cs = ap characters laid ∙ sym (take-map ch i es) in
    let long : i ≡ length (characters (held_entries ns)) = sym (length-take-le i cs (omega (arith, within, length-map es ch))) ∙ ap length (sym so_far) in
    let here : get_or cs i 0 ≡ e.character = get_or-map ch es i e 0 within ∙ ap ch (sym read) in
    let new : (k : ℕ) → slice_get (characters (held_entries ns)) k ≡ Some e.character → ⊥ = λ k at. fresh cs i distinct (omega (arith, within, length-map es ch)) k (ap (λ xs. slice_get xs k) (sym so_far) ∙ at ∙ ap Some (sym here)) in
    let all : characters (held_entries (ns ++ n ∷ [])) ≡ characters (held_entries ns) ++ e.character ∷ [] = ap characters (map-append (λ (m : Node). m.entry) ns (n ∷ [])) ∙ map-append ch (held_entries ns) (n.entry ∷ []) ∙ ap (λ (x : Entry). characters (held_entries ns) ++ x.character ∷ []) is in
    subst (λ xs. Leads xs (set dir e.character i)) (sym all) (leads_more (characters (held_entries ns)) dir e.character i long named new wide)

-- the entries of a tree are those of its nodes, by number
picked : (ns : List Node) (p : Option ℕ) (t : Tree) → Holds ns p t → map Some (entries t) ≡ map (slice_get (held_entries ns)) (numbers t)
picked ns p leaf h = refl
picked ns p (node l i e r) h =
    let here = sym (nth_map (λ (m : Node). m.entry) ns i (cell p l e r) h.0) in
    map-append Some (entries l) (e ∷ entries r) ∙ ap (λ xs. xs ++ Some e ∷ map Some (entries r)) (picked ns (Some i) l h.1) ∙ ap (λ x. map (slice_get (held_entries ns)) (numbers l) ++ x ∷ map Some (entries r)) here ∙ ap (λ xs. map (slice_get (held_entries ns)) (numbers l) ++ slice_get (held_entries ns) i ∷ xs) (picked ns (Some i) r h.2) ∙ sym (map-append (slice_get (held_entries ns)) (numbers l) (i ∷ numbers r))

some_same : {X : Type 0} (xs ys : List X) → map Some xs ≡ map Some ys → xs ≡ ys
some_same [] [] e = refl
some_same [] (y ∷ ys) e = cc
some_same (x ∷ xs) [] e = cc
some_same (x ∷ xs) (y ∷ ys) e =
    let heads : Some x ≡ Some y = cc in
    let same : x ≡ y = cc in
    let tails : map Some xs ≡ map Some ys = cc in
    ap (λ z. z ∷ xs) same ∙ ap (λ zs. y ∷ zs) (some_same xs ys tails)

pub whole_entries : (ns : List Node) (p : Option ℕ) (t : Tree) → Holds ns p t → numbers t ≡ range 0 (length ns) → entries t ≡ held_entries ns
whole_entries ns p t h is =
    some_same (entries t) (held_entries ns) (picked ns p t h ∙ ap (map (slice_get (held_entries ns))) (is ∙ ap (range 0) (sym (length-map ns (λ (m : Node). m.entry)))) ∙ nth_range (held_entries ns))

member_range : (k from n : ℕ) → from ≤ k → k < from + n → member k (range from n) ≡ true
member_range k from zero low high = absurd (omega arith)
member_range k from (suc n) low high =
    elim (cases_lt from k) [
      | inl lt ↦ or_right (eqb from k) (member k (range (suc from) n)) (member_range k (suc from) n (omega arith) (omega arith))
      | inr ge ↦ or_left (eqb from k) (member k (range (suc from) n)) (eq-eqb from k (omega arith))
    ]

-- the tree over all nodes is the whole index
pub whole_built : (ns ms : List Node) (link : Option ℕ) (n : ℕ) → n ≡ length ns → (b : Builds ns ms 0 n link) → Whole (adopted ms link None) link b.tree
whole_built ns ms link n long b =
    let t = b.tree in
    let apart = subst Apart (sym b.listed) (apart_range 0 n) in
    let longer : length (adopted ms link None) ≡ n = length_adopted ms link None ∙ same_length ns ms b.same ∙ sym long in
    record {
      at = b.held.at;
      holds = subst (λ y. Holds (adopted ms y None) None t) (sym b.held.at) (adopt_self ms b.held.above t None apart b.held.holds);
      apart_all = apart;
      covers = λ k low. ap (member k) b.listed ∙ member_range k 0 n (omega arith) (omega (arith, low, longer));
      sized = size_numbers t ∙ ap length b.listed ∙ length_range 0 n ∙ sym longer;
      evenly = b.even;
    }

pub built_entries : (ns ms : List Node) (link : Option ℕ) (n : ℕ) → n ≡ length ns → (b : Builds ns ms 0 n link) → entries b.tree ≡ held_entries ns
built_entries ns ms link n long b =
    whole_entries ms b.held.above b.tree b.held.holds (b.listed ∙ ap (range 0) (long ∙ sym (same_length ns ms b.same))) ∙ b.same

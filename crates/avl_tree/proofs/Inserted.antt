-- An index with one node more holds the tree with that node put in.
use Rattle.std.proofs.Common.{◌≡◌, ℕ, zero, suc, ◌+◌, ◌<◌, ◌≤◌, true, eqb, List, [], ◌∷◌, ◌++◌, length, set, Some, None, Option, sym, refl, ap, ◌∙◌, subst, inl, inr, arith, length-append, eq-eqb}
use Rattle.std.proofs.lemmas.Option.{slice_get_within}
use lib.ListN.{length-map}
use Rattle.std.proofs.lemmas.List.{map-append}
use Rattle.std.specs.List.{insert, slice_get}
use Rattle.std.proofs.ByRecursion.{All-append}
use Rattle.std.proofs.lemmas.Bool.{or_cases, or_left, or_right, cases_lt}
use Rattle.indexes.specs.Laws.{Away, Apart}
use Rattle.indexes.specs.Questions.{characters}
use Rattle.indexes.specs.declared.entry.Entry.{Entry}
use Rattle.indexes.proofs.Apart.{apart_inserted}
use Rattle.avl_tree.specs.declared.node.Node.{Node}
use Rattle.avl_tree.specs.Nodes.{cell, Holds, Sprout, Puts, Stood, Revises, adopted, held_entries}
use Rattle.avl_tree.specs.Shape.{member, Named}
use Rattle.avl_tree.specs.Tree.{Tree, leaf, node, numbers, size}
use Rattle.avl_tree.specs.Turns.{put, revised}
use Rattle.avl_tree.proofs.Builds.{same_length}
use Rattle.avl_tree.proofs.Evens.{put_even}
use Rattle.avl_tree.proofs.Grown.{Whole}
use Rattle.avl_tree.proofs.Puts.{inserts}
use Rattle.avl_tree.proofs.Revises.{revising}
use Rattle.avl_tree.proofs.Steps.{nth_left, nth_mid}
use Rattle.avl_tree.proofs.Ties.{adopt_self, length_adopted, entries_adopted}

holds_push : (ns : List Node) (n : Node) (p : Option ℕ) (t : Tree) → Holds ns p t → Holds (ns ++ n ∷ []) p t
holds_push ns n p leaf h = tt
holds_push ns n p (node l i e r) h =
    (nth_left ns (n ∷ []) i (slice_get_within ns i (cell p l e r) h.0) ∙ h.0, holds_push ns n (Some i) l h.1, holds_push ns n (Some i) r h.2)

-- the next number is no node's
off_length : (ns : List Node) (p : Option ℕ) (t : Tree) → Holds ns p t → Away (length ns) (numbers t)
off_length ns p leaf h = tt
off_length ns p (node l i e r) h =
    let within = slice_get_within ns i (cell p l e r) h.0 in
    All-append (λ d. d ≡ length ns → ⊥) (numbers l) (i ∷ numbers r) (off_length ns (Some i) l h.1) ((λ same. omega (arith, within, same)), off_length ns (Some i) r h.2)

member_more : (k i place : ℕ) (xs : List ℕ) → member k xs ≡ true → member k (insert xs place i) ≡ true
member_more k i zero xs is = or_right (eqb i k) (member k xs) is
member_more k i (suc place) [] is = or_right (eqb i k) (member k []) is
member_more k i (suc place) (x ∷ xs) is =
    elim (or_cases (eqb x k) (member k xs) is) [
      | inl here ↦ or_left (eqb x k) (member k (insert xs place i)) here
      | inr w ↦ or_right (eqb x k) (member k (insert xs place i)) (member_more k i place xs w)
    ]

member_new : (i place : ℕ) (xs : List ℕ) → member i (insert xs place i) ≡ true
member_new i zero xs = or_left (eqb i i) (member i xs) (eq-eqb i i refl)
member_new i (suc place) [] = or_left (eqb i i) (member i []) (eq-eqb i i refl)
member_new i (suc place) (x ∷ xs) = or_right (eqb x i) (member i (insert xs place i)) (member_new i place xs)

pub sprout_new : (ns : List Node) (root : Option ℕ) (t : Tree) (place : ℕ) (x : Entry) → Whole ns root t → place ≤ size t → size t < 65536 → Sprout (ns ++ cell None leaf x leaf ∷ []) root place (length ns) t x
sprout_new ns root t place x w within small =
    record {
      held = record { above = None; at = w.at; holds = holds_push ns (cell None leaf x leaf) None t w.holds };
      fresh = record { above = None; at = refl; holds = (nth_mid ns (cell None leaf x leaf) [] (length ns) refl, tt, tt) };
      apart = w.apart_all;
      off = off_length ns None t w.holds;
      small = small;
      within = within;
    }

pub whole_put : (ns ms : List Node) (root : Option ℕ) (t : Tree) (place r : ℕ) (x : Entry) → Whole ns root t → place ≤ size t → size t < 65536 → Puts (ns ++ cell None leaf x leaf ∷ []) ms root place (length ns) r → Whole (adopted ms (Some r) None) (Some r) (put t place (length ns) x)
whole_put ns ms root t place r x w within small puts =
    let s = sprout_new ns root t place x w within small in
    let u = put t place (length ns) x in
    let h = puts.after t x s in
    let k = inserts t place (length ns) x within in
    let apart = subst Apart (sym k.listed) (apart_inserted (length ns) (numbers t) place s.off s.apart) in
    let long : length (adopted ms (Some r) None) ≡ length ns + 1 = length_adopted ms (Some r) None ∙ same_length (ns ++ cell None leaf x leaf ∷ []) ms puts.same ∙ length-append ns (cell None leaf x leaf ∷ []) in
    record {
      at = h.at;
      holds = subst (λ y. Holds (adopted ms y None) None u) (sym h.at) (adopt_self ms h.above u None apart h.holds);
      apart_all = apart;
      covers = λ i low.
          elim (cases_lt i (length ns)) [
            | inl lt ↦ ap (member i) k.listed ∙ member_more i (length ns) place (numbers t) (w.covers i lt)
            | inr ge ↦ let e : length ns ≡ i = omega (arith, long, low, ge) in subst (λ z. member z (numbers u) ≡ true) e (ap (member (length ns)) k.listed ∙ member_new (length ns) place (numbers t))
          ];
      sized = omega (arith, k.sized, w.sized, long);
      evenly = (put_even t place (length ns) x w.evenly).even;
    }

-- a directory with one character more
nth_set_same : (xs : List ℕ) (i x : ℕ) → i < length xs → slice_get (set xs i x) i ≡ Some x
nth_set_same [] i x within = absurd (omega arith)
nth_set_same (y ∷ ys) zero x within = refl
nth_set_same (y ∷ ys) (suc i) x within = nth_set_same ys i x (omega arith)

nth_set_other : (xs : List ℕ) (i k x : ℕ) → (k ≡ i → ⊥) → slice_get (set xs i x) k ≡ slice_get xs k
nth_set_other [] i k x ne = refl
nth_set_other (y ∷ ys) zero zero x ne = absurd (ne refl)
nth_set_other (y ∷ ys) zero (suc k) x ne = refl
nth_set_other (y ∷ ys) (suc i) zero x ne = refl
nth_set_other (y ∷ ys) (suc i) (suc k) x ne = nth_set_other ys i k x (λ e. ne (ap suc e))

-- by the characters of the nodes
abbrev pub Leads : List ℕ → List ℕ → Type 0
Leads cs dir = (i c : ℕ) → slice_get cs i ≡ Some c → slice_get dir c ≡ Some i

pub leads_more : (cs dir : List ℕ) (c n : ℕ) → n ≡ length cs → Leads cs dir → ((i : ℕ) → slice_get cs i ≡ Some c → ⊥) → c < length dir → Leads (cs ++ c ∷ []) (set dir c n)
leads_more cs dir c n is old new within i d at =
    elim (cases_lt i (length cs)) [
      | inl lt ↦
          let was = sym (nth_left cs (c ∷ []) i lt) ∙ at in
          nth_set_other dir c d n (λ e. new i (was ∙ ap Some e)) ∙ old i d was
      | inr ge ↦
          let low = slice_get_within (cs ++ c ∷ []) i d at in
          let last : i ≡ length cs = omega (arith, ge, low, length-append cs (c ∷ [])) in
          let both : Some c ≡ Some d = sym (nth_mid cs c [] i last) ∙ at in
          let e : c ≡ d = cc in
          subst (λ z. slice_get (set dir c n) z ≡ Some i) e (nth_set_same dir c n within ∙ ap Some (is ∙ sym last))
    ]

-- a revision
pub whole_revised : (f : Entry → Entry) (ns ms : List Node) (root : Option ℕ) (t : Tree) (place : ℕ) → Whole ns root t → Stood ns root t → length ms ≡ length ns → Revises f ns ms root place → Whole (adopted ms root None) root (revised f t place)
whole_revised f ns ms root t place w s long rev =
    let u = revised f t place in
    let h = rev.after t s in
    let k = revising f t place in
    let apart = subst Apart (sym k.listed) w.apart_all in
    let longer : length (adopted ms root None) ≡ length ns = length_adopted ms root None ∙ long in
    record {
      at = h.at;
      holds = subst (λ y. Holds (adopted ms y None) None u) (sym h.at) (adopt_self ms h.above u None apart h.holds);
      apart_all = apart;
      covers = λ i low. ap (member i) k.listed ∙ w.covers i (omega (arith, longer, low));
      sized = omega (arith, k.sized, w.sized, longer);
      evenly = k.even w.evenly;
    }

-- the steps of a put together: ks comes of ns by one node more, the put and the new root
pub whole_insert : (ns more ms ks : List Node) (root : Option ℕ) (t : Tree) (place new r : ℕ) (x : Entry) → Whole ns root t → place ≤ size t → size t < 65536 → more ≡ ns ++ cell None leaf x leaf ∷ [] → new ≡ length ns → Puts more ms root place new r → ks ≡ adopted ms (Some r) None → Whole ks (Some r) (put t place (length ns) x)
whole_insert ns more ms ks root t place new r x w within small is at puts last =
    let p = subst (λ (qs : List Node). Puts qs ms root place new r) is puts in
    let q = subst (λ k. Puts (ns ++ cell None leaf x leaf ∷ []) ms root place k r) at p in
    subst (λ (qs : List Node). Whole qs (Some r) (put t place (length ns) x)) (sym last) (whole_put ns ms root t place r x w within small q)

pub named_insert : (ns more ms ks : List Node) (dir : List ℕ) (root : Option ℕ) (place new r : ℕ) (x : Entry) → Named ns dir → ((i : ℕ) → slice_get (characters (held_entries ns)) i ≡ Some x.character → ⊥) → x.character < length dir → more ≡ ns ++ cell None leaf x leaf ∷ [] → new ≡ length ns → Puts more ms root place new r → ks ≡ adopted ms (Some r) None → Named ks (set dir x.character new)
named_insert ns more ms ks dir root place new r x old fresh within is at puts last =
    let long = length-map (held_entries ns) (λ (e : Entry). e.character) ∙ length-map ns (λ (n : Node). n.entry) in
    let same : characters (held_entries ks) ≡ characters (held_entries ns) ++ x.character ∷ [] =
    ap (λ (qs : List Node). characters (held_entries qs)) last ∙ ap characters (entries_adopted ms (Some r) None) ∙ ap characters puts.same ∙ ap (λ (qs : List Node). characters (held_entries qs)) is ∙ ap characters (map-append (λ (n : Node). n.entry) ns (cell None leaf x leaf ∷ [])) ∙ map-append (λ (e : Entry). e.character) (held_entries ns) (x ∷ []) in
    subst (λ cs. Leads cs (set dir x.character new)) (sym same) (leads_more (characters (held_entries ns)) dir x.character new (at ∙ sym long) old fresh within)

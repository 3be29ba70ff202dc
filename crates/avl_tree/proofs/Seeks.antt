-- Where the node of a character stands, and a character that has none.
use Rattle.std.proofs.Common.{◌≡◌, ℕ, zero, suc, ◌+◌, ◌<◌, ◌≤◌, List, [], ◌∷◌, length, get_or, Some, Option, sym, refl, ap, ◌∙◌, arith}
use Rattle.std.proofs.lemmas.Option.{slice_get_within, get_or_from_slice_get}
use lib.ListN.{length-map}
use Rattle.avl_tree.proofs.Builds.{nth_some}
use Rattle.std.specs.List.{slice_get}
use Rattle.indexes.specs.Laws.{Away, Distinct}
use Rattle.indexes.specs.Questions.{characters, place_of}
use Rattle.indexes.specs.declared.entry.Entry.{Entry}
use Rattle.indexes.proofs.Places.{place_of_at}
use Rattle.avl_tree.specs.declared.node.Node.{Node}
use Rattle.avl_tree.specs.Climb.{Climbs}
use Rattle.avl_tree.specs.Nodes.{cell, Held, held_entries}
use Rattle.avl_tree.specs.Tree.{Tree, node, entries, size}
use Rattle.avl_tree.proofs.Cells.{read_is}
use Rattle.avl_tree.proofs.Climbs.{climb_held, found_entry}
use Rattle.avl_tree.proofs.Grown.{Whole}
use Rattle.avl_tree.proofs.Names.{spot, name_at_lem}

pub record Located (ns : List Node) (t : Tree) (i : ℕ) (n : Node) : Type 0 where
  pub lower : Tree
  pub entry : Entry
  pub upper : Tree
  pub offset : ℕ
  pub climbs : Climbs ns i t (node lower i entry upper) offset
  pub left_held : Held ns n.left lower
  pub entry_is : n.entry ≡ entry
  pub stands : slice_get (entries t) (offset + size lower) ≡ Some entry

pub located : (ns : List Node) (root : Option ℕ) (t : Tree) (i : ℕ) (n : Node) → Whole ns root t → size t ≤ 65536 → i < length ns → n ≡ get_or ns i n → Located ns t i n
located ns root t i n w small within read =
    let s = spot t i (w.covers i within) in
    let a = s.0 in
    let x = s.1 in
    let b = s.2 in
    let o = s.3 in
    let c : Climbs ns i t (node a i x b) o = record { holds = w.holds; found = s.4; at = refl; apart = w.apart_all; small = small } in
    let h = climb_held ns i t (node a i x b) o c in
    let cell_is = read_is ns i (cell h.above a x b) n h.holds.0 read in
    record {
      lower = a;
      entry = x;
      upper = b;
      offset = o;
      climbs = c;
      left_held = record { above = Some i; at = ap (λ (m : Node). m.left) cell_is; holds = h.holds.1 };
      entry_is = ap (λ (m : Node). m.entry) cell_is;
      stands = found_entry t a i x b o s.4;
    }

pub place_seen : (es : List Entry) (k c : ℕ) (x : Entry) → Distinct (characters es) → slice_get es k ≡ Some x → x.character ≡ c → place_of es c ≡ Some k
place_seen es k c x distinct is name =
    place_of_at es k c x distinct (slice_get_within es k x is) (ap (λ (e : Entry). e.character) (get_or_from_slice_get es k x x is) ∙ name)

-- a character that is not listed is no node's
pub no_node : (ns : List Node) (root : Option ℕ) (t : Tree) (c : ℕ) → Whole ns root t → size t ≤ 65536 → Away c (characters (entries t)) → (i : ℕ) (n : Node) → slice_get ns i ≡ Some n → n.entry.character ≡ c → ⊥
no_node ns root t c w small away i n at name =
    let within = slice_get_within ns i n at in
    let l = located ns root t i n w small within (sym (get_or_from_slice_get ns i n n at)) in
    off (entries t) (l.offset + size l.lower) l.entry away l.stands (ap (λ (e : Entry). e.character) (sym l.entry_is) ∙ name)
  where
    off : (es : List Entry) (k : ℕ) (x : Entry) → Away c (characters es) → slice_get es k ≡ Some x → x.character ≡ c → ⊥
    off [] k x a is name = cc
    off (y ∷ ys) zero x a is name = let e : y ≡ x = cc in a.0 (ap (λ (d : Entry). d.character) e ∙ name)
    off (y ∷ ys) (suc k) x a is name = off ys k x a.1 is name

-- nor is it among the characters of the nodes
pub no_name : (ns : List Node) (root : Option ℕ) (t : Tree) (c : ℕ) → Whole ns root t → size t ≤ 65536 → Away c (characters (entries t)) → (i : ℕ) → slice_get (characters (held_entries ns)) i ≡ Some c → ⊥
no_name ns root t c w small away i is =
    let within = slice_get_within (characters (held_entries ns)) i c is in
    let long = length-map (held_entries ns) (λ (e : Entry). e.character) ∙ length-map ns (λ (n : Node). n.entry) in
    let s = nth_some ns i (omega (arith, within, long)) in
    let name = name_at_lem ns i s.0 s.1 in
    let both : Some s.0.entry.character ≡ Some c = sym name ∙ is in
    let e : s.0.entry.character ≡ c = cc in
    no_node ns root t c w small away i s.0 s.1 e

-- What the ghost fields of an AVL index say, as facts about its tree.
use Rattle.std.proofs.Common.{◌≡◌, ℕ, ◌<◌, ◌≤◌, Bool, true, false, cond, leb, ltb, take, List, [], ◌∷◌, ◌++◌, length, get_or, set, Some, None, vec_items, vec_len, Option, sym, refl, ap, ◌∙◌, subst, arith, ltb-true}
use lib.ListN.{length-map}
use Rattle.indexes.specs.Entries.{is_present}
use Rattle.std.specs.List.{insert, slice_get}
use Rattle.std.specs.Bool.{then_some}
use Rattle.indexes.specs.Changes.{at_place, trimmed}
use Rattle.indexes.specs.declared.entry.Entry.{Entry}
use Rattle.indexes.proofs.Apart.{away_unfound}
use Rattle.indexes.proofs.Places.{place_of_away}
use Rattle.std.proofs.lemmas.Option.{slice_get_read}
use Rattle.indexes.specs.Laws.{Distinct}
use Rattle.indexes.specs.Questions.{characters, listed, place_of, count, before}
use Rattle.avl.specs.Avl.{avl_tree_of, avl_entries, avl_room}
use Rattle.avl.specs.declared.index.AvlIndex.{AvlIndex}
use Rattle.avl_tree.specs.declared.node.Node.{Node}
use Rattle.avl_tree.specs.Builds.{Builds}
use Rattle.avl_tree.specs.Nodes.{cell, Held, Stood, Revises, Sprout, Puts, adopted, held_entries}
use Rattle.avl_tree.specs.Shape.{tree_of, even, Rooted, Stored, Covered, Named}
use Rattle.avl_tree.specs.Tree.{Tree, leaf, entries, numbers, size}
use Rattle.avl_tree.proofs.Grown.{Whole, whole, shaped, held_whole, tree_is}
use Rattle.avl_tree.specs.Turns.{put, revised}
use Rattle.avl_tree.proofs.Inserted.{sprout_new, whole_insert, named_insert, whole_revised}
use Rattle.avl_tree.proofs.Names.{names_distinct, unlisted}
use Rattle.avl_tree.proofs.Puts.{inserts}
use Rattle.avl_tree.proofs.Rebuilt.{whole_built, built_entries}
use Rattle.avl_tree.proofs.Revises.{revising}
use Rattle.avl_tree.proofs.Seeks.{Located, located, no_name}
use Rattle.avl_tree.proofs.Ties.{entries_adopted}
use Rattle.avl_tree.proofs.Sizes.{size_entries}
use Rattle.avl_tree.proofs.Untold.{untold}

pub whole_of : (s : AvlIndex) → Whole (vec_items s.nodes) s.root (avl_tree_of s)
whole_of s =
    whole (vec_items s.nodes) s.root s.rooted (untold (vec_items s.nodes) s.root s.stored) s.apart s.covered s.sized s.balanced

pub held_of : (s : AvlIndex) → Held (vec_items s.nodes) s.root (avl_tree_of s)
held_of s = held_whole (vec_items s.nodes) s.root (avl_tree_of s) (whole_of s)

pub count_of : (s : AvlIndex) → vec_len s.nodes ≡ length (avl_entries s)
count_of s = s.nodes.ok.0 ∙ sym s.sized ∙ size_entries (avl_tree_of s)

pub small_of : (s : AvlIndex) → size (avl_tree_of s) ≤ 65536
small_of s = omega (arith, size_entries (avl_tree_of s), s.within)

-- the same at a slice of the nodes
pub held_at : (s : AvlIndex) (ns : List Node) → ns ≡ vec_items s.nodes → Held ns s.root (avl_tree_of s)
held_at s ns is = subst (λ (ms : List Node). Held ms s.root (avl_tree_of s)) (sym is) (held_of s)

pub whole_at : (s : AvlIndex) (ns : List Node) → ns ≡ vec_items s.nodes → Whole ns s.root (avl_tree_of s)
whole_at s ns is = subst (λ (ms : List Node). Whole ms s.root (avl_tree_of s)) (sym is) (whole_of s)

pub stood_at : (s : AvlIndex) (ns : List Node) → ns ≡ vec_items s.nodes → Stood ns s.root (avl_tree_of s)
stood_at s ns is = record { held = held_at s ns is; apart = (whole_of s).apart_all; small = small_of s }

pub named_at : (s : AvlIndex) (ns : List Node) → ns ≡ vec_items s.nodes → Named ns (vec_items s.directory)
named_at s ns is = subst (λ (ms : List Node). Named ms (vec_items s.directory)) (sym is) s.named

then_cond : (b : Bool) (r : ℕ) → then_some b r ≡ cond b (Some r) None
then_cond true r = refl
then_cond false r = refl

-- how many are present before a place, and no answer beyond the length
pub before_is : (s : AvlIndex) (place len r : ℕ) → len ≡ vec_len s.nodes → r ≡ count is_present (take place (avl_entries s)) → then_some (leb place len) r ≡ before is_present (avl_entries s) place
before_is s place len r long counted =
    then_cond (leb place len) r ∙ ap (λ k. cond (leb place k) (Some r) None) (long ∙ count_of s) ∙ ap (λ k. cond (leb place (length (avl_entries s))) (Some k) None) counted

-- where the directory leads for a character
pub leads_at : (s : AvlIndex) (c i : ℕ) → c < 65536 → i ≡ get_or (vec_items s.directory) c i → slice_get (vec_items s.directory) c ≡ Some i
leads_at s c i fits read =
    slice_get_read (vec_items s.directory) (vec_len s.directory) c i s.directory.ok.0 (omega (arith, s.wide, fits)) read

-- a character that it leads elsewhere is not listed
pub elsewhere : (s : AvlIndex) (ns : List Node) (c i : ℕ) → ns ≡ vec_items s.nodes → slice_get (vec_items s.directory) c ≡ Some i → ((n : Node) → slice_get ns i ≡ Some n → n.entry.character ≡ c → ⊥) → None ≡ place_of (avl_entries s) c
elsewhere s ns c i at leads other =
    sym (place_of_away c (avl_entries s) (unlisted ns (vec_items s.directory) None (avl_tree_of s) c i (whole_at s ns at).holds (named_at s ns at) leads other))

-- where a node stands that was read
pub located_at : (s : AvlIndex) (ns : List Node) (i : ℕ) (n : Node) → ns ≡ vec_items s.nodes → true ≡ ltb i (length ns) → n ≡ get_or ns i n → Located ns (avl_tree_of s) i n
located_at s ns i n at within read =
    located ns s.root (avl_tree_of s) i n (whole_at s ns at) (small_of s) (ltb-true i (length ns) (sym within)) read

-- what the ghost fields ask of nodes, a root and a directory, and the entries that they hold
pub record Facts (ns : List Node) (root : Option ℕ) (dir : List ℕ) (es : List Entry) : Type 0 where
  pub rooted : Rooted ns root
  pub stored : ∥ Stored ns root ∥₁
  pub apart : Distinct (numbers (tree_of ns root))
  pub covered : Covered ns root
  pub sized : size (tree_of ns root) ≡ length ns
  pub balanced : even (tree_of ns root) ≡ true
  pub named : Named ns dir
  pub distinct : Distinct (characters (entries (tree_of ns root)))
  pub meaning : entries (tree_of ns root) ≡ es

pub facts : (ns : List Node) (root : Option ℕ) (dir : List ℕ) (t : Tree) (es : List Entry) → Whole ns root t → Named ns dir → entries t ≡ es → Facts ns root dir es
facts ns root dir t es w named is =
    let s = shaped ns root t w in
    let e = tree_is ns root t w in
    record {
      rooted = s.rooted;
      stored = ∣ s.stored ∣₁;
      apart = s.apart_all;
      covered = s.covered;
      sized = s.sized;
      balanced = s.balanced;
      named = named;
      distinct = subst (λ u. Distinct (characters (entries u))) (sym e) (names_distinct ns dir None t w.holds named w.apart_all);
      meaning = ap entries e ∙ is;
    }

-- other nodes, of the same characters in their order
renamed : (ns ms : List Node) (dir : List ℕ) → characters (held_entries ms) ≡ characters (held_entries ns) → Named ns dir → Named ms dir
renamed ns ms dir same named i d at = named i d (ap (λ cs. slice_get cs i) (sym same) ∙ at)

-- the nodes after a change, with the root hung below nothing
pub changed : (s : AvlIndex) (f : Entry → Entry) (place : ℕ) (ns ms ks : List Node) → ns ≡ vec_items s.nodes → length ms ≡ length ns → Revises f ns ms s.root place → ks ≡ adopted ms s.root None → Facts ks s.root (vec_items s.directory) (at_place f (avl_entries s) place)
changed s f place ns ms ks at long rev is =
    let t = avl_tree_of s in
    let w = subst (λ (qs : List Node). Whole qs s.root (revised f t place)) (sym is) (whole_revised f ns ms s.root t place (whole_at s ns at) (stood_at s ns at) long rev) in
    let names = ap (λ (qs : List Node). characters (held_entries qs)) is ∙ ap characters (entries_adopted ms s.root None) ∙ rev.same in
    facts ks s.root (vec_items s.directory) (revised f t place) _ w (renamed ns ks (vec_items s.directory) names (named_at s ns at)) (revising f t place).written

-- one more node was pushed
pub pushed : (s : AvlIndex) (x : Entry) (n : Node) (all more : List Node) → more ≡ all → all ≡ vec_items s.nodes ++ n ∷ [] → n ≡ cell None leaf x leaf → more ≡ vec_items s.nodes ++ cell None leaf x leaf ∷ []
pushed s x n all more same at is = same ∙ at ∙ ap (λ (m : Node). vec_items s.nodes ++ m ∷ []) is

-- what a put of it asks
pub sprouts : (s : AvlIndex) (place new : ℕ) (x : Entry) (more : List Node) → place ≤ length (avl_entries s) → length (avl_entries s) < avl_room s → more ≡ vec_items s.nodes ++ cell None leaf x leaf ∷ [] → new ≡ vec_len s.nodes → Sprout more s.root place new (avl_tree_of s) x
sprouts s place new x more low room more_is new_is =
    let ns = vec_items s.nodes in
    let t = avl_tree_of s in
    let count = size_entries t in
    let sprout = sprout_new ns s.root t place x (whole_of s) (omega (arith, count, low)) (omega (arith, count, room)) in
    subst (λ (qs : List Node). Sprout qs s.root place new t x) (sym more_is) (subst (λ k. Sprout (ns ++ cell None leaf x leaf ∷ []) s.root place k t x) (sym (new_is ∙ s.nodes.ok.0)) sprout)

-- the nodes after the put
pub inserted : (s : AvlIndex) (place new r : ℕ) (x : Entry) (more ms ks : List Node) → place ≤ length (avl_entries s) → listed (avl_entries s) x.character ≡ false → length (avl_entries s) < avl_room s → more ≡ vec_items s.nodes ++ cell None leaf x leaf ∷ [] → new ≡ vec_len s.nodes → x.character < 65536 → Puts more ms s.root place new r → ks ≡ adopted ms (Some r) None → Facts ks (Some r) (set (vec_items s.directory) x.character new) (insert (avl_entries s) place x)
inserted s place new r x more ms ks low fresh room more_is new_is small puts is =
    let ns = vec_items s.nodes in
    let t = avl_tree_of s in
    let count = size_entries t in
    let new_at : new ≡ length ns = new_is ∙ s.nodes.ok.0 in
    let within : place ≤ size t = omega (arith, count, low) in
    let whole = whole_insert ns more ms ks s.root t place new r x (whole_of s) within (omega (arith, count, room)) more_is new_at puts is in
    let away = no_name ns s.root t x.character (whole_of s) (small_of s) (away_unfound x.character (avl_entries s) fresh) in
    let named = named_insert ns more ms ks (vec_items s.directory) s.root place new r x s.named away (omega (arith, s.wide, s.directory.ok.0, small)) more_is new_at puts is in
    facts ks (Some r) (set (vec_items s.directory) x.character new) (put t place (length ns) x) _ whole named (inserts t place (length ns) x within).written

-- what the spare entries are when they were collected and trimmed
pub spared : (s : AvlIndex) (ns : List Node) (none out es : List Entry) → ns ≡ vec_items s.nodes → none ≡ [] → ((t : Tree) → Held ns s.root t → out ≡ none ++ entries t) → es ≡ trimmed out → es ≡ trimmed (avl_entries s)
spared s ns none out es at start collected is =
    is ∙ ap trimmed (collected (avl_tree_of s) (held_at s ns at) ∙ ap (λ xs. xs ++ avl_entries s) start)

pub laid_length : (ns : List Node) (es : List Entry) → held_entries ns ≡ es → length ns ≡ length es
laid_length ns es held = sym (length-map ns (λ (n : Node). n.entry)) ∙ ap length held

-- the nodes after a tree was built over all of them
pub rebuilt : (ns ms ks : List Node) (link : Option ℕ) (n : ℕ) (dir : List ℕ) (es : List Entry) → held_entries ns ≡ es → n ≡ length es → Named ns dir → Builds ns ms 0 n link → ks ≡ adopted ms link None → Facts ks link dir es
rebuilt ns ms ks link n dir es held count named b is =
    let long = count ∙ sym (laid_length ns es held) in
    let w = subst (λ (qs : List Node). Whole qs link b.tree) (sym is) (whole_built ns ms link n long b) in
    let names = ap (λ (qs : List Node). characters (held_entries qs)) is ∙ ap characters (entries_adopted ms link None) ∙ ap characters b.same in
    facts ks link dir b.tree es w (renamed ns ks dir names named) (built_entries ns ms link n long b ∙ held)

-- no nodes at all
pub whole_none : Whole [] None leaf
whole_none = record { at = refl; holds = tt; apart_all = tt; covers = λ k h. absurd (omega arith); sized = refl; evenly = tt }

pub named_none : (dir : List ℕ) → Named [] dir
named_none dir i c is = cc

-- the facts of an index of no nodes
pub emptied : (ns : List Node) (dir : List ℕ) → ns ≡ [] → Facts ns None dir []
emptied ns dir is =
    facts ns None dir leaf [] (subst (λ (ms : List Node). Whole ms None leaf) (sym is) whole_none) (subst (λ (ms : List Node). Named ms dir) (sym is) (named_none dir)) refl

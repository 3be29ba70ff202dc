-- A new event of a log, as the index takes it in.
use Rattle.std.proofs.Common.{◌≡◌, ℕ, zero, suc, ◌≤◌, Bool, true, false, not, ◌&&◌, ◌||◌, List, [], ◌∷◌, ◌++◌, length, take, drop, Some, unwrap_or, sym, refl, ap, ◌∙◌, subst, arith}
use Rattle.std.specs.Option.{option_map}
use Rattle.std.specs.List.{AllByRecursion, slice_get}
use Rattle.std.proofs.lemmas.List.{take-append-drop}
use Rattle.std.proofs.lemmas.Bool.{both_ways, and_parts, and_from}
use Rattle.events.specs.declared.name.Name.{Name}
use Rattle.events.specs.declared.character.Character.{Character}
use Rattle.events.specs.declared.position.Position.{Position}
use Rattle.events.specs.declared.deed.Deed.TheVariants as deed
use Rattle.events.specs.Parts.{NamedEvent}
use Rattle.fugue.specs.Names.{same, has, Ordered}
use Rattle.fugue.specs.Logs.{NewestFirst, version, Distinct}
use Rattle.fugue.specs.Tree.{Node, Tree, only, node_names, has_node}
use Rattle.fugue.specs.Placements.{inserted, deleted, beyond, node_of, struck, LeftOrigin, start, node, left_origin, right_end_of, visible, attachment_after, placement, seen, placement_in, tree_at, tree}
use Rattle.fugue.proofs.Names.{same_not}
use Rattle.fugue.proofs.Lists.{all_member, all_members, all_left, member_kept}
use Rattle.fugue.proofs.Grown.{node_in}
use Rattle.fugue.proofs.Versions.{event_of_lem}
use Rattle.fugue.proofs.Placed.{deleted_at, inserted_at, tree_step, tree_part, node_held, fresh_node, closed_log}
use Rattle.walk_theory.specs.Origins.{Origin, new_node}
use Rattle.walk_theory.specs.Bases.{home_in}
use Rattle.walk_theory.specs.Standing.{Stands, StepStands}
use Rattle.walk_theory.specs.Indexed.{Holds, Sees, shown_at, place_in, put_in, Inserts, Deletes, TakesIn}
use Rattle.walk_theory.proofs.Standing.{walks}
use Rattle.walk_theory.proofs.Shown.{listed_whole, shows_versions}
use Rattle.walk_theory.proofs.Counted.{insert_edit, delete_edit}

-- a place in a list, by its names
nth_like : {Y : Type 0} (f : Name → Y) (a b : List Node) → node_names a ≡ node_names b → (p : ℕ) → option_map (λ n. f n.name) (slice_get a p) ≡ option_map (λ n. f n.name) (slice_get b p)
nth_like f [] [] e p = refl
nth_like f [] (n ∷ b) e p = absurd (grind arith)
nth_like f (m ∷ a) [] e p = absurd (grind arith)
nth_like f (m ∷ a) (n ∷ b) e zero = let q : m.name ≡ n.name = cc in ap (λ x. Some (f x)) q
nth_like f (m ∷ a) (n ∷ b) e (suc p) = let q : node_names a ≡ node_names b = cc in nth_like f a b q p

origin_like : (a b : List Node) → node_names a ≡ node_names b → (p : ℕ) → left_origin a p ≡ left_origin b p
origin_like a b e zero = refl
origin_like a b e (suc p) = nth_like node a b e p

target_like : (a b : List Node) → node_names a ≡ node_names b → (p : ℕ) → deleted_at (slice_get a p) ≡ deleted_at (slice_get b p)
target_like a b e p = ap (λ z. unwrap_or z beyond) (nth_like deleted a b e p)

origin_passes : (pass : Name → Bool) (ns : List Node) → AllByRecursion (λ n. pass n.name ≡ true) ns → (p : ℕ) (q : LeftOrigin) → left_origin ns p ≡ Some q → Origin pass (right_end_of q)
origin_passes pass ns a p start e = tt
origin_passes pass ns a zero (node y) e = absurd (grind arith)
origin_passes pass [] a (suc p) (node y) e = absurd (grind arith)
origin_passes pass (n ∷ ns) a (suc zero) (node y) e = let z : n.name ≡ y = cc in rw z at a.0
origin_passes pass (n ∷ ns) a (suc (suc p)) (node y) e = origin_passes pass ns a.1 (suc p) (node y) e

home_after : (before : Name → Name → Bool) (t : Tree) (q : LeftOrigin) → attachment_after before t q ≡ home_in before t (right_end_of q)
unfolding attachment_after
home_after before t start = refl
home_after before t (node y) = refl

-- a list with a node put in
put_lacks : (a b : List Node) (n : Node) (y : Name) → has_node (a ++ n ∷ b) y ≡ false → (same n.name y ≡ false) × (has_node (a ++ b) y ≡ false)
put_lacks [] b n y h = grind arith
put_lacks (m ∷ a) b n y h = let ih = put_lacks a b n y in grind (arith, ih)

module _ (before : Name → Name → Bool) (o : Ordered before) (e : NamedEvent) (log closed : NewestFirst) (u : Distinct (e ∷ log)) (small : Tree) (later listed : List Node)
    (h : Holds before log closed small later listed) (sees : Sees log e.parents closed) (d : ℕ) (deep : length listed ≤ d) where
  abbrev v : Name → Bool
  v = has (version log e.parents)

  abbrev whole : Tree
  whole = tree before log

  abbrev shown : List Node
  shown = shown_at before log e.parents listed

  shown_names : node_names (visible before (seen before log e.parents)) ≡ node_names shown
  shown_names = shows_versions before o log closed u.1 small later listed h e.parents sees

  placed_insert : (c : Character) (p : Position) → e.deed ≡ deed.Insert c p
      → placement_in before log e ≡ inserted_at before (seen before log e.parents) e.name c (left_origin shown p.at)
  unfolding placement_in placement
  placed_insert c p f =
      ap (placement before (seen before log e.parents) e.name) f
      ∙ ap (inserted_at before (seen before log e.parents) e.name c) (origin_like _ _ shown_names p.at)

  placed_delete : (p : Position) → e.deed ≡ deed.Delete p → placement_in before log e ≡ deleted_at (slice_get shown p.at)
  unfolding placement_in placement
  placed_delete p f = ap (placement before (seen before log e.parents) e.name) f ∙ target_like _ _ shown_names p.at

  -- the version has all that is closed off
  sees_nodes : (y : Name) → has_node (tree before closed) y ≡ true → v y ≡ true
  sees_nodes y k = let r = event_of_lem closed y (node_held before closed y k) in subst (λ z. v z ≡ true) r.2 (all_member _ closed r.0 sees r.1)

  shown_pass : AllByRecursion (λ n. (has_node listed n.name && v n.name) ≡ true) shown
  shown_pass = all_members _ shown (λ n i.
      let k = member_kept (λ m. v m.name && not (struck (seen before log e.parents) m.name)) listed n i in
      and_from _ _ (node_in listed n k.0) (and_parts (v n.name) (not (struck (seen before log e.parents) n.name)) k.1).0)

  is_on : e ∷ log ≡ (e ∷ h.recent) ++ closed
  is_on = ap (λ z. e ∷ z) h.is

  module _ (c : Character) (p : Position) (f : e.deed ≡ deed.Insert c p) (q : LeftOrigin) (found : left_origin shown p.at ≡ Some q) where
    abbrev new : Node
    new = new_node e.name (attachment_after before (tree_at before log e.parents) q) c

    abbrev place : ℕ
    place = place_in before e log listed d q

    placed_new : placement_in before log e ≡ inserted new
    unfolding tree_at
    placed_new = placed_insert c p f ∙ ap (inserted_at before (seen before log e.parents) e.name c) found

    new_tree : tree before (e ∷ log) ≡ new ∷ whole
    new_tree = tree_step before e log ∙ ap (λ m. node_of m ++ whole) placed_new

    new_is : new ≡ new_node e.name (home_in before (only v whole) (right_end_of q)) c
    new_is = ap (λ w. new_node e.name w c) (home_after before (tree_at before log e.parents) q ∙ ap (λ t. home_in before t (right_end_of q)) (tree_part before log e.parents))

    step : StepStands before (tree before closed) small later whole listed d v (right_end_of q) e.name c
    step =
        walks before o (tree before closed) small later d v (right_end_of q) e.name c sees_nodes whole listed h.stands deep (closed_log before log u.1 e.parents)
        (origin_passes (λ y. has_node listed y && v y) shown shown_pass p.at q found) (fresh_node before e log u.0)

    holds_new : Holds before (e ∷ log) closed small (new_node e.name step.at c ∷ later) (put_in before e log listed d q c)
    holds_new = record {
      recent = e ∷ h.recent;
      is = is_on;
      stands = subst (λ w. Stands before (tree before closed) small (new_node e.name step.at c ∷ later) w (put_in before e log listed d q c))
          (sym (new_tree ∙ ap (λ n. n ∷ whole) new_is)) step.stands;
      gone = λ y m w.
          let s = put_lacks (take place listed) (drop place listed) _ y w in
          let m' : has_node (new ∷ whole) y ≡ true = rw new_tree at m in
          h.gone y (older (same e.name y) (has_node whole y) s.0 m') (ap (λ z. has_node z y) (sym (take-append-drop place listed)) ∙ s.1);
    }
      where
        older : (a b : Bool) → a ≡ false → (a || b) ≡ true → b ≡ true
        older a b x y = grind arith

    -- no listed node has the new name
    others : AllByRecursion (λ m. same m.name e.name ≡ false) (take place listed)
    others =
        all_left _ (take place listed) (drop place listed)
        (subst (AllByRecursion (λ m. same m.name e.name ≡ false)) (sym (take-append-drop place listed))
        (all_members _ listed (λ m i. same_not m.name e.name
        (λ z. both_ways _ (fresh_node before e log u.0) (rw z at (listed_whole before o log closed u.1 small later listed h m i))))))

    inserts : Inserts before e log closed small later listed d q c
    inserts = record {
      at = step.at;
      placed = placed_new;
      holds = holds_new;
      edited = insert_edit before o log closed small e u new placed_new refl (new_node e.name step.at c ∷ later) (take place listed) (drop place listed) _ refl holds_new others;
    }

  module _ (p : Position) (f : e.deed ≡ deed.Delete p) (n : Node) (found : slice_get shown p.at ≡ Some n) where
    placed_strike : placement_in before log e ≡ deleted n.name
    placed_strike = placed_delete p f ∙ ap deleted_at found

    same_tree : tree before (e ∷ log) ≡ whole
    same_tree = tree_step before e log ∙ ap (λ m. node_of m ++ whole) placed_strike

    deletes : Deletes before e log closed small later listed n
    deletes = record {
      placed = placed_strike;
      holds = record {
        recent = e ∷ h.recent;
        is = is_on;
        stands = subst (λ w. Stands before (tree before closed) small later w listed) (sym same_tree) h.stands;
        gone = λ y k. h.gone y (rw same_tree at k);
      };
      edited = delete_edit before o log closed small e u n.name placed_strike later listed h;
    }

  pub takes_in : TakesIn before e log closed small later listed d
  takes_in = record {
    inserts = inserts;
    deletes = deletes;
    insert_beyond = λ c p f k. placed_insert c p f ∙ ap (inserted_at before (seen before log e.parents) e.name c) k;
    delete_beyond = λ p f k. placed_delete p f ∙ ap deleted_at k;
  }

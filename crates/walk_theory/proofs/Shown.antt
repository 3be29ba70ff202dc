-- What the index shows of a version, and of all events, is what is visible.
use Rattle.std.proofs.Common.{◌≡◌, Bool, true, false, not, ◌&&◌, List, [], ◌∷◌, ◌++◌, filter, sym, ap, ◌∙◌, subst, arith}
use Rattle.std.specs.List.{AllByRecursion}
use Rattle.std.proofs.lemmas.Bool.{cond_both, or_right}
use Rattle.std.proofs.ByRecursion.{All-weaker}
use Rattle.events.specs.declared.name.Name.{Name}
use Rattle.fugue.specs.Names.{has, Ordered, ◌∈◌}
use Rattle.fugue.specs.Logs.{NewestFirst, version, Distinct}
use Rattle.fugue.specs.Tree.{Node, Tree, sequence, only, node_names, ClosedPart, has_node, Grown}
use Rattle.fugue.specs.Placements.{Placed, target_of, nodes, targets, struck, part_of, visible, placements, seen, tree_at, tree}
use Rattle.fugue.proofs.Names.{has_append}
use Rattle.fugue.proofs.Lists.{all_members, map_member, kept_whole, kept_like}
use Rattle.fugue.proofs.Grown.{has_own, inside}
use Rattle.fugue.proofs.Nested.{sequence_part}
use Rattle.fugue.proofs.Placed.{tree_part, grown_log, closed_log}
use Rattle.walk_theory.specs.Bases.{grown_over}
use Rattle.walk_theory.specs.Standing.{Stands}
use Rattle.walk_theory.specs.Indexed.{Holds, Sees, unstruck, shown_at}
use Rattle.walk_theory.proofs.Bases.{names_have, names_from}
use Rattle.walk_theory.proofs.Standing.{lists, names_only, kept_both, listed_from, within_whole}

-- of a part of the whole tree, where what is not listed is struck
module _ (before : Name → Name → Bool) (o : Ordered before) (big small : Tree) (later : List Node) (whole : Tree) (listed : List Node) (st : Stands before big small later whole listed)
    (v : Name → Bool) (cl : ClosedPart v whole) (ps : List Placed) (is : nodes ps ≡ only v whole)
    (gone : (y : Name) → has_node whole y ≡ true → has_node listed y ≡ false → struck ps y ≡ true) where
  abbrev alive : Name → Bool
  alive y = not (struck ps y)

  abbrev both : Name → Bool
  both y = v y && alive y

  abbrev whole_names : List Name
  whole_names = node_names (sequence before whole)

  grown_whole : Grown whole
  grown_whole = (lists before o big small later whole listed st).0

  stay : (y : Name) → y ∈ whole_names → both y ≡ (both y && has_node (grown_over before small later) y)
  stay y i =
      let h = gone y (names_from before o whole grown_whole y i) in
      let k : has_node listed y ≡ true → has_node (grown_over before small later) y ≡ true
      = λ e. listed_from before o big small later whole listed st y (names_have listed y e) in
      weigh (v y) (struck ps y) (has_node listed y) (has_node (grown_over before small later) y) h k
    where
      weigh : (a b c d : Bool) → (c ≡ false → b ≡ true) → (c ≡ true → d ≡ true) → (a && not b) ≡ ((a && not b) && d)
      weigh a b c d h k = grind (arith, h, k)

  visible_names : node_names (visible before ps) ≡ filter alive (node_names (sequence before (nodes ps)))
  unfolding visible
  visible_names = names_only alive (sequence before (nodes ps))

  shows_part : node_names (visible before ps) ≡ node_names (filter (λ n. v n.name && not (struck ps n.name)) listed)
  shows_part =
      visible_names
      ∙ ap (filter alive) (ap (λ z. node_names (sequence before z)) is ∙ ap node_names (sequence_part before o v whole grown_whole cl) ∙ names_only v (sequence before whole))
      ∙ kept_both alive v both whole_names (all_members _ whole_names (λ y i. swap (v y) (alive y)))
      ∙ sym (kept_both both (has_node (grown_over before small later)) both whole_names (all_members _ whole_names stay))
      ∙ ap (filter both) (sym ((lists before o big small later whole listed st).1 ∙ names_only (has_node (grown_over before small later)) (sequence before whole)))
      ∙ sym (names_only both listed)
    where
      swap : (a b : Bool) → (a && b) ≡ (b && a)
      swap a b = grind arith

-- what older events struck stays struck, in every version that has them
module _ (before : Name → Name → Bool) where
  struck_more : (p : Placed) (ps : List Placed) (y : Name) → struck ps y ≡ true → struck (p ∷ ps) y ≡ true
  unfolding targets
  struck_more p ps y h = has_append (target_of p.placement) (targets ps) y ∙ or_right (has (target_of p.placement) y) _ h

  all_placed : (v : List Name) (closed : NewestFirst) → AllByRecursion (λ e. has v e.name ≡ true) closed → AllByRecursion (λ p. has v p.name ≡ true) (placements before closed)
  unfolding placements
  all_placed v [] a = tt
  all_placed v (e ∷ closed) a = (a.0, all_placed v closed a.1)

  struck_part : (v : List Name) (recent closed : NewestFirst) → AllByRecursion (λ e. has v e.name ≡ true) closed
      → (y : Name) → struck (placements before closed) y ≡ true → struck (part_of v (placements before (recent ++ closed))) y ≡ true
  unfolding placements
  struck_part v [] closed a y h = rw (kept_whole (λ p. has v p.name) (placements before closed) (all_placed v closed a)) h
  struck_part v (e ∷ recent) closed a y h =
      let ih = struck_part v recent closed a y h in
      cond_both (has v e.name) _ _ (λ l. struck l y ≡ true) (λ _. struck_more _ _ y ih) (λ _. ih)

  struck_later : (recent closed : NewestFirst) (y : Name) → struck (placements before closed) y ≡ true → struck (placements before (recent ++ closed)) y ≡ true
  unfolding placements
  struck_later [] closed y h = h
  struck_later (e ∷ recent) closed y h = struck_more _ _ y (struck_later recent closed y h)

module _ (before : Name → Name → Bool) (o : Ordered before) (log closed : NewestFirst) (u : Distinct log) (small : Tree) (later listed : List Node)
    (h : Holds before log closed small later listed) where
  abbrev whole : Tree
  whole = tree before log

  pub struck_on : (y : Name) → struck (placements before closed) y ≡ true → struck (placements before log) y ≡ true
  struck_on y k = subst (λ z. struck (placements before z) y ≡ true) (sym h.is) (struck_later before h.recent closed y k)

  struck_seen : (heads : List Name) → Sees log heads closed → (y : Name) → struck (placements before closed) y ≡ true → struck (seen before log heads) y ≡ true
  unfolding seen
  struck_seen heads s y k =
      subst (λ z. struck (part_of (version log heads) (placements before z)) y ≡ true) (sym h.is) (struck_part before (version log heads) h.recent closed s y k)

  pub listed_whole : (n : Node) → n ∈ listed → has_node whole n.name ≡ true
  listed_whole n i =
      within_whole before o (tree before closed) small later whole listed h.stands n.name
      (listed_from before o (tree before closed) small later whole listed h.stands n.name (map_member (λ m. m.name) listed n i))

  part_nodes : (heads : List Name) → nodes (seen before log heads) ≡ only (has (version log heads)) whole
  unfolding tree_at
  part_nodes heads = tree_part before log heads

  pub shows_versions : (heads : List Name) → Sees log heads closed → node_names (visible before (seen before log heads)) ≡ node_names (shown_at before log heads listed)
  shows_versions heads s =
      shows_part before o (tree before closed) small later whole listed h.stands (has (version log heads)) (closed_log before log u heads)
      (seen before log heads) (part_nodes heads) (λ y k m. struck_seen heads s y (h.gone y k m))

  all_nodes : nodes (placements before log) ≡ only (has_node whole) whole
  unfolding tree
  all_nodes = sym (kept_whole (λ n. has_node (nodes (placements before log)) n.name) (nodes (placements before log)) (has_own (nodes (placements before log))))

  pub shows_the_text : node_names (visible before (placements before log)) ≡ node_names (only (unstruck before log) listed)
  shows_the_text =
      shows_part before o (tree before closed) small later whole listed h.stands (has_node whole)
      (All-weaker _ _ (λ n k _. k.1) whole (inside whole (grown_log before log u)))
      (placements before log) all_nodes (λ y k m. struck_on y (h.gone y k m))
      ∙ ap node_names (kept_like _ _ listed (all_members _ listed (λ n i. rw (listed_whole n i))))

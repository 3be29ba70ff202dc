-- Joining two sides by rotations, by the side whose root comes up.
use Rattle.std.proofs.Common.{◌≡◌, ℕ, ◌<◌, true, false, ltb, List, length, Some, Option, sym, subst}
use Rattle.avl_tree.specs.declared.node.Node.{Node}
use Rattle.avl_tree.specs.declared.side.Side.{Side}
use Rattle.avl_tree.specs.declared.side.Side.TheVariants.{Left, Right}
use Rattle.avl_tree.specs.Nodes.{Held, Makes, Ready, Stands}
use Rattle.avl_tree.specs.Tree.{Tree, node, height}
use Rattle.avl_tree.specs.Turns.{at_side, opposite, turned, raised, turn_right, turn_left}
use Rattle.avl_tree.proofs.Raises.{turn_left_keeps, turn_right_keeps, ready_inside_left, ready_inside_right, ready_anew_left, ready_anew_right, raised_left, raised_right, unraised_left, unraised_right}
use Rattle.avl_tree.proofs.Turns.{ready_right, ready_right_2, turned_right, ready_left, ready_left_2, turned_left}
use Rattle.avl_tree.proofs.Ties.{link_within}
use Rattle.avl_tree.proofs.Weighs.{node_at}

pub near_within : (ns : List Node) (near : Option ℕ) (j : ℕ) (far : Option ℕ) (i : ℕ) → near ≡ Some i → (side : Side) → Ready ns (at_side side near far) j (at_side side far near) → i < length ns
near_within ns near j far i is Left p = link_within ns near p.0 p.3.lower i is
near_within ns near j far i is Right p = link_within ns near p.2 p.3.upper i is

-- the near side has the root i, whose children are known
module _ (ns : List Node) (near : Option ℕ) (j : ℕ) (far : Option ℕ) (i : ℕ) (is : near ≡ Some i) (outer inner : Option ℕ) where
  pub ready_turn : (side : Side) → inner ≡ at_side side (node_at ns i).right (node_at ns i).left → Ready ns (at_side side near far) j (at_side side far near) → Ready ns (at_side side inner far) j (at_side side far inner)
  ready_turn Left e p = subst (λ k. Ready ns k j far) (sym e) (ready_right ns near j far i is p)
  ready_turn Right e p = subst (λ k. Ready ns far j k) (sym e) (ready_left ns far j near i is p)

  module _ (ms : List Node) where
    pub ready_turn_2 : (side : Side) → outer ≡ at_side side (node_at ns i).left (node_at ns i).right → inner ≡ at_side side (node_at ns i).right (node_at ns i).left → (low : ℕ) → Makes node ns ms (at_side side inner far) j (at_side side far inner) low → Ready ns (at_side side near far) j (at_side side far near) → Ready ms (at_side side outer (Some low)) i (at_side side (Some low) outer)
    ready_turn_2 Left eo ei low m p =
        subst (λ k. Ready ms k i (Some low)) (sym eo) (ready_right_2 ns near j far i is ms low (subst (λ k. Makes node ns ms k j far low) ei m) p)
    ready_turn_2 Right eo ei low m p =
        subst (λ k. Ready ms (Some low) i k) (sym eo) (ready_left_2 ns far j near i is ms low (subst (λ k. Makes node ns ms far j k low) ei m) p)

    pub turned_at : (side : Side) → outer ≡ at_side side (node_at ns i).left (node_at ns i).right → inner ≡ at_side side (node_at ns i).right (node_at ns i).left → (ks : List Node) (low t : ℕ) → Makes node ns ms (at_side side inner far) j (at_side side far inner) low → Makes node ms ks (at_side side outer (Some low)) i (at_side side (Some low) outer) t → Makes (turned side) ns ks (at_side side near far) j (at_side side far near) t
    turned_at Left eo ei ks low t one two =
        turned_right ns near j far i is ms ks low t (subst (λ k. Makes node ns ms k j far low) ei one) (subst (λ k. Makes node ms ks k i (Some low) t) eo two)
    turned_at Right eo ei ks low t one two =
        turned_left ns far j near i is ms ks low t (subst (λ k. Makes node ns ms far j k low) ei one) (subst (λ k. Makes node ms ks (Some low) i k t) eo two)

  -- the two sides of the root
  pub stands_outer : (side : Side) → outer ≡ at_side side (node_at ns i).left (node_at ns i).right → Ready ns (at_side side near far) j (at_side side far near) → Stands ns outer
  stands_outer Left e p =
      let q = ready_inside_left ns near j far i is p in
      (q.0, subst (λ k. Held ns k q.0) (sym e) q.3.lower)
  stands_outer Right e p =
      let q = ready_inside_right ns far j near i is p in
      (q.2, subst (λ k. Held ns k q.2) (sym e) q.3.upper)

  pub stands_inner : (side : Side) → inner ≡ at_side side (node_at ns i).right (node_at ns i).left → Ready ns (at_side side near far) j (at_side side far near) → Stands ns inner
  stands_inner Left e p =
      let q = ready_inside_left ns near j far i is p in
      (q.2, subst (λ k. Held ns k q.2) (sym e) q.3.upper)
  stands_inner Right e p =
      let q = ready_inside_right ns far j near i is p in
      (q.0, subst (λ k. Held ns k q.0) (sym e) q.3.lower)

  pub ready_middle : (side back : Side) → back ≡ opposite side → outer ≡ at_side side (node_at ns i).left (node_at ns i).right → inner ≡ at_side side (node_at ns i).right (node_at ns i).left → Ready ns (at_side side near far) j (at_side side far near) → Ready ns (at_side back inner outer) i (at_side back outer inner)
  ready_middle Left back eb eo ei p =
      let q = ready_inside_left ns near j far i is p in
      subst (λ b. Ready ns (at_side b inner outer) i (at_side b outer inner)) (sym eb) (subst (λ k. Ready ns outer i k) (sym ei) (subst (λ k. Ready ns k i (node_at ns i).right) (sym eo) q))
  ready_middle Right back eb eo ei p =
      let q = ready_inside_right ns far j near i is p in
      subst (λ b. Ready ns (at_side b inner outer) i (at_side b outer inner)) (sym eb) (subst (λ k. Ready ns inner i k) (sym eo) (subst (λ k. Ready ns k i (node_at ns i).right) (sym ei) q))

  module _ (ms : List Node) (m : ℕ) where
    -- what turning the near side back makes of it
    made : (side back : Side) → back ≡ opposite side → outer ≡ at_side side (node_at ns i).left (node_at ns i).right → inner ≡ at_side side (node_at ns i).right (node_at ns i).left → Makes (turned back) ns ms (at_side back inner outer) i (at_side back outer inner) m → Makes (turned (opposite side)) ns ms (node_at ns i).left i (node_at ns i).right m
    made Left back eb eo ei one =
        let at = subst (λ b. Makes (turned b) ns ms (at_side b inner outer) i (at_side b outer inner) m) eb one in
        subst (λ k. Makes turn_left ns ms (node_at ns i).left i k m) ei (subst (λ k. Makes turn_left ns ms k i inner m) eo at)
    made Right back eb eo ei one =
        let at = subst (λ b. Makes (turned b) ns ms (at_side b inner outer) i (at_side b outer inner) m) eb one in
        subst (λ k. Makes turn_right ns ms (node_at ns i).left i k m) eo (subst (λ k. Makes turn_right ns ms k i outer m) ei at)

    pub ready_anew : (side back : Side) → back ≡ opposite side → outer ≡ at_side side (node_at ns i).left (node_at ns i).right → inner ≡ at_side side (node_at ns i).right (node_at ns i).left → Makes (turned back) ns ms (at_side back inner outer) i (at_side back outer inner) m → Ready ns (at_side side near far) j (at_side side far near) → Ready ms (at_side side (Some m) far) j (at_side side far (Some m))
    ready_anew Left back eb eo ei one p =
        ready_anew_left ns near j far i is ms m turn_left turn_left_keeps (made Left back eb eo ei one) p
    ready_anew Right back eb eo ei one p =
        ready_anew_right ns far j near i is ms m turn_right turn_right_keeps (made Right back eb eo ei one) p

    pub raised_at : (side back : Side) → back ≡ opposite side → outer ≡ at_side side (node_at ns i).left (node_at ns i).right → inner ≡ at_side side (node_at ns i).right (node_at ns i).left → ((a b : Tree) → Held ns outer a → Held ns inner b → ltb (height a) (height b) ≡ true) → (ks : List Node) (t : ℕ) → Makes (turned back) ns ms (at_side back inner outer) i (at_side back outer inner) m → Makes (turned side) ms ks (at_side side (Some m) far) j (at_side side far (Some m)) t → Makes (raised side) ns ks (at_side side near far) j (at_side side far near) t
    raised_at Left back eb eo ei test ks t one two =
        raised_left ns near j far i is ms ks m t (λ a b ha hb. test a b (subst (λ k. Held ns k a) (sym eo) ha) (subst (λ k. Held ns k b) (sym ei) hb)) (made Left back eb eo ei one) two
    raised_at Right back eb eo ei test ks t one two =
        raised_right ns far j near i is ms ks m t (λ a b ha hb. test b a (subst (λ k. Held ns k b) (sym eo) hb) (subst (λ k. Held ns k a) (sym ei) ha)) (made Right back eb eo ei one) two

  pub unraised_at : (side : Side) → outer ≡ at_side side (node_at ns i).left (node_at ns i).right → inner ≡ at_side side (node_at ns i).right (node_at ns i).left → ((a b : Tree) → Held ns outer a → Held ns inner b → ltb (height a) (height b) ≡ false) → (ks : List Node) (t : ℕ) → Makes (turned side) ns ks (at_side side (Some i) far) j (at_side side far (Some i)) t → Makes (raised side) ns ks (at_side side near far) j (at_side side far near) t
  unraised_at Left eo ei test ks t one =
      unraised_left ns near j far i is ks t (λ a b ha hb. test a b (subst (λ k. Held ns k a) (sym eo) ha) (subst (λ k. Held ns k b) (sym ei) hb)) (subst (λ k. Makes turn_right ns ks k j far t) (sym is) one)
  unraised_at Right eo ei test ks t one =
      unraised_right ns far j near i is ks t (λ a b ha hb. test b a (subst (λ k. Held ns k b) (sym eo) hb) (subst (λ k. Held ns k a) (sym ei) ha)) (subst (λ k. Makes turn_left ns ks far j k t) (sym is) one)

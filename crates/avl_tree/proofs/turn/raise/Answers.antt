use Rattle.std.proofs.Common.{ap, arith, le-ltb, lt-ltb}
use Rattle.avl_tree.specs.declared.node.Weight.{Weight}
use Rattle.avl_tree.proofs.Sided.{near_within, stands_outer, stands_inner, ready_middle, ready_anew, raised_at, unraised_at}
use Rattle.avl_tree.proofs.turn.raise.Goals as goal

pub bounds-nodes-i : goal.bounds-nodes-i
bounds-nodes-i c =
    near_within c.args.nodes.now c.args.near c.args.j c.args.far c.in-Some.i c.in-Some.is c.args.side c.requires

pub weight_of-requires : goal.weight_of-requires
weight_of-requires c =
    let o = c.order-outer in
    stands_outer c.args.nodes.now c.args.near c.args.j c.args.far c.in-Some.i c.in-Some.is o.result.0 o.result.1 c.args.side o.ensures.first c.requires

pub weight_of-requires-2 : goal.weight_of-requires-2
weight_of-requires-2 c =
    let o = c.order-outer in
    stands_inner c.args.nodes.now c.args.near c.args.j c.args.far c.in-Some.i c.in-Some.is o.result.0 o.result.1 c.args.side o.ensures.second c.requires

pub turn-middle-requires : goal.turn-middle-requires
turn-middle-requires c =
    let o = c.order-outer in
    ready_middle c.args.nodes.now c.args.near c.args.j c.args.far c.in-Some.i c.in-Some.is o.result.0 o.result.1 c.args.side c.other.result c.other.ensures o.ensures.first o.ensures.second c.requires

pub turn-requires : goal.turn-requires
turn-requires c =
    let o = c.order-outer in
    let m = c.turn-middle in
    ready_anew c.args.nodes.now c.args.near c.args.j c.args.far c.in-Some.i c.in-Some.is o.result.0 o.result.1 m.new.nodes m.result c.args.side c.other.result c.other.ensures o.ensures.first o.ensures.second m.ensures c.requires

pub returns-then-weight_of : goal.returns-then-weight_of
returns-then-weight_of c =
    let o = c.order-outer in
    let m = c.turn-middle in
    raised_at c.args.nodes.now c.args.near c.args.j c.args.far c.in-Some.i c.in-Some.is o.result.0 o.result.1 m.new.nodes m.result c.args.side c.other.result c.other.ensures o.ensures.first o.ensures.second
    (λ a b ha hb. lt-ltb _ _ (omega (arith, ap (λ (w : Weight). w.height) (c.weight_of.ensures a ha), ap (λ (w : Weight). w.height) (c.weight_of-2.ensures b hb), c.if-weight_of.true)))
    c.turn.new.nodes c.turn.result m.ensures c.turn.ensures

pub returns-else-weight_of : goal.returns-else-weight_of
returns-else-weight_of c =
    let o = c.order-outer in
    unraised_at c.args.nodes.now c.args.near c.args.j c.args.far c.in-Some.i c.in-Some.is o.result.0 o.result.1 c.args.side o.ensures.first o.ensures.second
    (λ a b ha hb. le-ltb _ _ (omega (arith, ap (λ (w : Weight). w.height) (c.weight_of.ensures a ha), ap (λ (w : Weight). w.height) (c.weight_of-2.ensures b hb), c.if-weight_of.false)))
    c.turn-else-weight_of.new.nodes c.turn-else-weight_of.result c.turn-else-weight_of.ensures

use Rattle.avl_tree.proofs.Sided.{near_within, ready_turn, ready_turn_2, turned_at}
use Rattle.avl_tree.proofs.turn.turn.Goals as goal

pub bounds-nodes-i : goal.bounds-nodes-i
bounds-nodes-i c =
    near_within c.args.nodes.now c.args.near c.args.j c.args.far c.in-Some.i c.in-Some.is c.args.side c.requires

pub tie_at-low-requires : goal.tie_at-low-requires
tie_at-low-requires c =
    let o = c.order-outer in
    ready_turn c.args.nodes.now c.args.near c.args.j c.args.far c.in-Some.i c.in-Some.is o.result.0 o.result.1 c.args.side o.ensures.second c.requires

pub tie_at-requires-2 : goal.tie_at-requires-2
tie_at-requires-2 c =
    let o = c.order-outer in
    let low = c.tie_at-low in
    ready_turn_2 c.args.nodes.now c.args.near c.args.j c.args.far c.in-Some.i c.in-Some.is o.result.0 o.result.1 low.new.nodes c.args.side o.ensures.first o.ensures.second low.result low.ensures c.requires

pub returns : goal.returns
returns c =
    let o = c.order-outer in
    let low = c.tie_at-low in
    turned_at c.args.nodes.now c.args.near c.args.j c.args.far c.in-Some.i c.in-Some.is o.result.0 o.result.1 low.new.nodes c.args.side o.ensures.first o.ensures.second c.tie_at-2.new.nodes low.result c.tie_at-2.result low.ensures c.tie_at-2.ensures

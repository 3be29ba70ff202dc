use Rattle.std.proofs.Common.{Some, sym, refl, ap, arith}
use Rattle.avl_tree.specs.Tree.{node}
use Rattle.avl_tree.specs.declared.node.Weight.{Weight}
use Rattle.avl_tree.proofs.Climbs.{climb_held, at_top, parent_of, left_held, climbs_on, from_right, from_left, larger, found_size}
use Rattle.avl_tree.proofs.Ties.{link_within}
use Rattle.avl_tree.proofs.Weighs.{load_is}
use Rattle.avl_tree.proofs.climb.+place_above.Goals as goal

pub bounds : goal.bounds
bounds t c =
    let ns = c.args.nodes.now in
    link_within ns (Some c.args.i) c.requires.1 (climb_held ns c.args.i c.requires.0 c.requires.1 c.requires.2 c.requires.3) c.args.i refl

pub bounds-nodes-j : goal.bounds-nodes-j
bounds-nodes-j t c =
    let ns = c.args.nodes.now in
    let a = parent_of ns c.args.i c.requires.0 c.requires.1 c.requires.2 c.in-Some.j c.requires.3 c.in-Some.is in
    let w = node a.0.lower a.0.number a.0.entry a.0.upper in
    link_within ns (Some c.in-Some.j) w (record { above = a.0.parent; at = ap Some (sym a.1); holds = a.0.holds }) c.in-Some.j refl

pub weight_of-before-requires : goal.weight_of-before-requires
weight_of-before-requires t c =
    let u = c.requires.0 in
    let s = c.requires.1 in
    let o = c.requires.2 in
    let k = c.requires.3 in
    let a = parent_of c.args.nodes.now c.args.i u s o c.in-Some.j k c.in-Some.is in
    (a.0.lower, left_held c.args.nodes.now c.args.i c.in-Some.j c.in-Some.is u s o k)

pub place_above-requires : goal.place_above-requires
place_above-requires t c =
    let ns = c.args.nodes.now in
    let u = c.requires.0 in
    let s = c.requires.1 in
    let o = c.requires.2 in
    let k = c.requires.3 in
    let a = parent_of c.args.nodes.now c.args.i u s o c.in-Some.j k c.in-Some.is in
    let w = node a.0.lower a.0.number a.0.entry a.0.upper in
    let on = climbs_on c.args.nodes.now c.args.i c.in-Some.j c.in-Some.is u s o k in
    let before = ap (λ (x : Weight). x.size) (c.weight_of-before.ensures a.0.lower (left_held c.args.nodes.now c.args.i c.in-Some.j c.in-Some.is u s o k)) in
    let at = from_right c.args.nodes.now c.args.i c.in-Some.j c.in-Some.is u s o k (sym c.if-eq.ensures) in
    let here = load_is ns (Some c.args.i) s (climb_held ns c.args.i u s o k) in
    let there = load_is ns (Some c.in-Some.j) w (climb_held ns c.in-Some.j u w a.0.offset on) in
    (omega (arith, c.decreases, here, there, larger c.args.nodes.now c.args.i c.in-Some.j c.in-Some.is u s o k, found_size u w a.0.offset a.0.found, k.small), (u, w, a.0.offset, on, omega (arith, before, at, c.requires.4)))

pub place_above-requires-else-eq : goal.place_above-requires-else-eq
place_above-requires-else-eq t c =
    let ns = c.args.nodes.now in
    let u = c.requires.0 in
    let s = c.requires.1 in
    let o = c.requires.2 in
    let k = c.requires.3 in
    let a = parent_of c.args.nodes.now c.args.i u s o c.in-Some.j k c.in-Some.is in
    let w = node a.0.lower a.0.number a.0.entry a.0.upper in
    let on = climbs_on c.args.nodes.now c.args.i c.in-Some.j c.in-Some.is u s o k in
    let at = from_left c.args.nodes.now c.args.i c.in-Some.j c.in-Some.is u s o k (sym c.if-eq.ensures) in
    let here = load_is ns (Some c.args.i) s (climb_held ns c.args.i u s o k) in
    let there = load_is ns (Some c.in-Some.j) w (climb_held ns c.in-Some.j u w a.0.offset on) in
    (omega (arith, c.decreases, here, there, larger c.args.nodes.now c.args.i c.in-Some.j c.in-Some.is u s o k, found_size u w a.0.offset a.0.found, k.small), (u, w, a.0.offset, on, omega (arith, at, c.requires.4)))

pub returns-in_default : goal.returns-in_default
returns-in_default t c u s o k =
    omega (arith, at_top c.args.nodes.now c.args.i u s o k c.in_default.is)

pub returns-then-eq : goal.returns-then-eq
returns-then-eq t c u s o k =
    let a = parent_of c.args.nodes.now c.args.i u s o c.in-Some.j k c.in-Some.is in
    let w = node a.0.lower a.0.number a.0.entry a.0.upper in
    let before = ap (λ (x : Weight). x.size) (c.weight_of-before.ensures a.0.lower (left_held c.args.nodes.now c.args.i c.in-Some.j c.in-Some.is u s o k)) in
    let at = from_right c.args.nodes.now c.args.i c.in-Some.j c.in-Some.is u s o k (sym c.if-eq.ensures) in
    let rest = c.place_above.ensures u w a.0.offset (climbs_on c.args.nodes.now c.args.i c.in-Some.j c.in-Some.is u s o k) in
    omega (arith, before, at, rest)

pub returns-else-eq : goal.returns-else-eq
returns-else-eq t c u s o k =
    let a = parent_of c.args.nodes.now c.args.i u s o c.in-Some.j k c.in-Some.is in
    let w = node a.0.lower a.0.number a.0.entry a.0.upper in
    let at = from_left c.args.nodes.now c.args.i c.in-Some.j c.in-Some.is u s o k (sym c.if-eq.ensures) in
    let rest = c.place_above-else-eq.ensures u w a.0.offset (climbs_on c.args.nodes.now c.args.i c.in-Some.j c.in-Some.is u s o k) in
    omega (arith, at, rest)

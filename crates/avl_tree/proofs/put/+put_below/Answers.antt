use Rattle.std.proofs.Common.{◌≡◌, ◌-◌, ◌<◌, ◌≤◌, sym, ap, subst, arith}
use Rattle.avl_tree.specs.Nodes.{Held, Sprout}
use Rattle.avl_tree.specs.Tree.{Tree, size}
use Rattle.avl_tree.specs.declared.node.Weight.{Weight}
use Rattle.avl_tree.proofs.Sprouted.{ready_put_left, put_left, ready_put_right, put_right}
use Rattle.avl_tree.proofs.Sprouts.{root_of, sprout_left, sprout_right}
use Rattle.avl_tree.proofs.Weighs.{lefts, falls_left, falls_right}
use Rattle.avl_tree.proofs.Weighs.{node_at}
use Rattle.avl_tree.proofs.put.+put_below.Goals as goal

pub weight_of-before-requires : goal.weight_of-before-requires
weight_of-before-requires t c =
    let o = root_of c.args.nodes.now c.args.link c.in-Some.j c.in-Some.is c.args.place c.args.new c.requires.0 c.requires.1 c.requires.2 in
    (o.lower, lefts o)

pub put_below-low-requires : goal.put_below-low-requires
put_below-low-requires t c =
    let ns = c.args.nodes.now in
    let u = c.requires.0 in
    let x = c.requires.1 in
    let s = c.requires.2 in
    let o = root_of c.args.nodes.now c.args.link c.in-Some.j c.in-Some.is c.args.place c.args.new u x s in
    let size_is = ap (λ (w : Weight). w.size) (c.weight_of-before.ensures o.lower (lefts o)) in
    (omega (arith, falls_left s.held o, c.decreases), (o.lower, x, sprout_left c.args.nodes.now c.args.link c.in-Some.j c.in-Some.is c.args.place c.args.new u x s (omega (arith, size_is, c.if-place-before.true))))

pub balance-requires : goal.balance-requires
balance-requires t c =
    let u = c.requires.0 in
    let x = c.requires.1 in
    let s = c.requires.2 in
    let o = root_of c.args.nodes.now c.args.link c.in-Some.j c.in-Some.is c.args.place c.args.new u x s in
    let size_is = ap (λ (w : Weight). w.size) (c.weight_of-before.ensures o.lower (lefts o)) in
    ready_put_left c.args.nodes.now c.args.link c.in-Some.j c.in-Some.is c.args.place c.args.new c.put_below-low.new.nodes c.put_below-low.result c.put_below-low.ensures u x s (omega (arith, size_is, c.if-place-before.true))

pub put_below-high-requires : goal.put_below-high-requires
put_below-high-requires t c =
    let ns = c.args.nodes.now in
    let u = c.requires.0 in
    let x = c.requires.1 in
    let s = c.requires.2 in
    let o = root_of c.args.nodes.now c.args.link c.in-Some.j c.in-Some.is c.args.place c.args.new u x s in
    let size_is = ap (λ (w : Weight). w.size) (c.weight_of-before.ensures o.lower (lefts o)) in
    let place_is = ap (λ m. c.args.place - m - 1) size_is in
    (omega (arith, falls_right s.held o, c.decreases), (o.upper, x, subst (λ q. Sprout ns (node_at c.args.nodes.now c.in-Some.j).right q c.args.new o.upper x) (sym place_is) (sprout_right c.args.nodes.now c.args.link c.in-Some.j c.in-Some.is c.args.place c.args.new u x s (omega (arith, size_is, c.if-place-before.false)))))

pub balance-requires-else-place-before : goal.balance-requires-else-place-before
balance-requires-else-place-before t c =
    let u = c.requires.0 in
    let x = c.requires.1 in
    let s = c.requires.2 in
    let o = root_of c.args.nodes.now c.args.link c.in-Some.j c.in-Some.is c.args.place c.args.new u x s in
    let size_is = ap (λ (w : Weight). w.size) (c.weight_of-before.ensures o.lower (lefts o)) in
    ready_put_right c.args.nodes.now c.args.link c.in-Some.j c.in-Some.is c.args.place c.args.new c.put_below-high.new.nodes c.put_below-high.result (c.args.place - c.weight_of-before.result.size - 1) c.put_below-high.ensures u x s (omega (arith, size_is, c.if-place-before.false)) (ap (λ m. c.args.place - m - 1) size_is)

pub returns-then-place-before : goal.returns-then-place-before
returns-then-place-before t c =
    let ns = c.args.nodes.now in
    let n = (node_at c.args.nodes.now c.in-Some.j) in
    let test : (l : Tree) → Held ns n.left l → c.args.place ≤ size l = λ l h. omega (arith, ap (λ (w : Weight). w.size) (c.weight_of-before.ensures l h), c.if-place-before.true) in
    put_left c.args.nodes.now c.args.link c.in-Some.j c.in-Some.is c.args.place c.args.new c.put_below-low.new.nodes c.put_below-low.result c.balance.new.nodes c.balance.result test c.put_below-low.ensures c.balance.ensures

pub returns-else-place-before : goal.returns-else-place-before
returns-else-place-before t c =
    let ns = c.args.nodes.now in
    let n = (node_at c.args.nodes.now c.in-Some.j) in
    let place = c.args.place in
    let q = place - c.weight_of-before.result.size - 1 in
    let test : (l : Tree) → Held ns n.left l → (size l < place) × (q ≡ place - size l - 1) =
    λ l h. let size_is = ap (λ (w : Weight). w.size) (c.weight_of-before.ensures l h) in (omega (arith, size_is, c.if-place-before.false), ap (λ m. place - m - 1) size_is) in
    put_right c.args.nodes.now c.args.link c.in-Some.j c.in-Some.is c.args.place c.args.new c.put_below-high.new.nodes c.put_below-high.result c.balance-else-place-before.new.nodes c.balance-else-place-before.result q test c.put_below-high.ensures c.balance-else-place-before.ensures

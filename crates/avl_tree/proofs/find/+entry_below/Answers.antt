use Rattle.std.proofs.Common.{◌-◌, ◌<◌, ◌∷◌, length, Some, sym, ap, ◌∙◌, arith}
use Rattle.std.specs.List.{slice_get}
use Rattle.avl_tree.specs.declared.node.Node.{Node}
use Rattle.avl_tree.specs.declared.node.Weight.{Weight}
use Rattle.avl_tree.specs.Tree.{entries}
use Rattle.avl_tree.proofs.Sizes.{size_entries}
use Rattle.avl_tree.proofs.Steps.{nth_left, nth_mid, nth_right}
use Rattle.avl_tree.proofs.Weighs.{opened, lefts, rights, falls_left, falls_right}
use Rattle.avl_tree.proofs.find.+entry_below.Goals as goal

pub weight_of-requires : goal.weight_of-requires
weight_of-requires t c = let o = opened c.requires.1 c.in_ok-node.was in (o.lower, lefts o)

pub entry_below-requires : goal.entry_below-requires
entry_below-requires t c =
    let o = opened c.requires.1 c.in_ok-node.was in
    (omega (arith, falls_left c.requires.1 o, c.decreases), (o.lower, lefts o))

pub entry_below-requires-else-place-before-2 : goal.entry_below-requires-else-place-before-2
entry_below-requires-else-place-before-2 t c =
    let o = opened c.requires.1 c.in_ok-node.was in
    (omega (arith, falls_right c.requires.1 o, c.decreases), (o.upper, rights o))

pub returns-then-place-before : goal.returns-then-place-before
returns-then-place-before t c u h =
    let o = opened h c.in_ok-node.was in
    let n = ap (λ (w : Weight). w.size) (c.weight_of.ensures o.lower (lefts o)) in
    c.entry_below.ensures o.lower (lefts o) ∙ sym (ap (λ v. slice_get (entries v) c.args.place) o.is ∙ nth_left (entries o.lower) (o.entry ∷ entries o.upper) c.args.place (omega (arith, n, size_entries o.lower, c.if-place-before.true)))

pub returns-then-place-before-2 : goal.returns-then-place-before-2
returns-then-place-before-2 t c u h =
    let o = opened h c.in_ok-node.was in
    let n = ap (λ (w : Weight). w.size) (c.weight_of.ensures o.lower (lefts o)) in
    ap (λ (m : Node). Some m.entry) o.cell_is ∙ sym (ap (λ v. slice_get (entries v) c.args.place) o.is ∙ nth_mid (entries o.lower) o.entry (entries o.upper) c.args.place (omega (arith, n, size_entries o.lower, c.if-place-before-2.true)))

pub returns-else-place-before-2 : goal.returns-else-place-before-2
returns-else-place-before-2 t c u h =
    let o = opened h c.in_ok-node.was in
    let n = ap (λ (w : Weight). w.size) (c.weight_of.ensures o.lower (lefts o)) in
    let past : length (entries o.lower) < c.args.place = omega (arith, n, size_entries o.lower, c.if-place-before.false, c.if-place-before-2.false) in
    let place_is = ap (λ m. c.args.place - m - 1) (n ∙ size_entries o.lower) in
    c.entry_below-else-place-before-2.ensures o.upper (rights o) ∙ ap (slice_get (entries o.upper)) place_is ∙ sym (ap (λ v. slice_get (entries v) c.args.place) o.is ∙ nth_right (entries o.lower) o.entry (entries o.upper) c.args.place past)

use Rattle.std.proofs.Common.{◌+◌, ◌-◌, ◌∷◌, length, Some, sym, ap, ◌∙◌, arith}
use Rattle.indexes.specs.Entries.{is_prepared}
use Rattle.indexes.specs.Questions.{bit, find, shifted}
use Rattle.indexes.proofs.Finds.{find_left}
use Rattle.avl_tree.specs.declared.node.Node.{Node}
use Rattle.avl_tree.specs.declared.node.Weight.{Weight}
use Rattle.avl_tree.specs.Tree.{entries, size}
use Rattle.avl_tree.proofs.Sizes.{size_entries, prepared_entries}
use Rattle.avl_tree.proofs.Steps.{find_behind, find_mid, shifted_behind}
use Rattle.avl_tree.proofs.Weighs.{opened, lefts, rights, falls_left, falls_right}
use Rattle.avl_tree.proofs.find.+nth_below.Goals as goal

pub weight_of-left-requires : goal.weight_of-left-requires
weight_of-left-requires t c = let o = opened c.requires.1 c.in_ok-node.was in (o.lower, lefts o)

pub nth_below-requires : goal.nth_below-requires
nth_below-requires t c =
    let o = opened c.requires.1 c.in_ok-node.was in
    (omega (arith, falls_left c.requires.1 o, c.decreases), (o.lower, lefts o, omega (arith, c.requires.2, ap size o.is)))

pub nth_below-requires-then-not-prepared_here : goal.nth_below-requires-then-not-prepared_here
nth_below-requires-then-not-prepared_here t c =
    let o = opened c.requires.1 c.in_ok-node.was in
    let n = ap (λ (w : Weight). w.size) (c.weight_of-left.ensures o.lower (lefts o)) in
    (omega (arith, falls_right c.requires.1 o, c.decreases), (o.upper, rights o, omega (arith, c.requires.2, ap size o.is, n)))

pub nth_below-requires-else-n-before-2 : goal.nth_below-requires-else-n-before-2
nth_below-requires-else-n-before-2 t c =
    let o = opened c.requires.1 c.in_ok-node.was in
    let n = ap (λ (w : Weight). w.size) (c.weight_of-left.ensures o.lower (lefts o)) in
    (omega (arith, falls_right c.requires.1 o, c.decreases), (o.upper, rights o, omega (arith, c.requires.2, ap size o.is, n)))

pub returns-then-n-before : goal.returns-then-n-before
returns-then-n-before t c u h =
    let o = opened h c.in_ok-node.was in
    let n = ap (λ (w : Weight). w.prepared) (c.weight_of-left.ensures o.lower (lefts o)) in
    c.nth_below.ensures o.lower (lefts o) ∙ sym (ap (shifted c.args.offset) (ap (λ v. find is_prepared (entries v) c.args.n) o.is ∙ find_left is_prepared (entries o.lower) (o.entry ∷ entries o.upper) c.args.n (omega (arith, n, prepared_entries o.lower, c.if-n-before.true))))

pub returns-then-not-prepared_here : goal.returns-then-not-prepared_here
returns-then-not-prepared_here t c u h =
    let o = opened h c.in_ok-node.was in
    let n = ap (λ (w : Weight). w.size) (c.weight_of-left.ensures o.lower (lefts o)) in
    let m = ap (λ (w : Weight). w.prepared) (c.weight_of-left.ensures o.lower (lefts o)) in
    let xs = entries o.lower in
    let ys = entries o.upper in
    let not-here = sym (c.if-not-prepared_here.ensures ∙ ap (λ (d : Node). is_prepared d.entry) o.cell_is) in
    let none = ap bit not-here in
    let rest = c.args.n - c.weight_of-left.result.prepared in
    let found = find_behind is_prepared xs o.entry ys c.args.n rest (omega (arith, m, prepared_entries o.lower, none, c.if-n-before.false)) in
    shifted_behind c.args.offset (c.args.offset + c.weight_of-left.result.size) (length xs) _ _ (find is_prepared ys rest) (ap (λ v. find is_prepared (entries v) c.args.n) o.is ∙ found) (omega (arith, n, size_entries o.lower)) (c.nth_below-then-not-prepared_here.ensures o.upper (rights o))

pub returns-then-n-before-2 : goal.returns-then-n-before-2
returns-then-n-before-2 t c u h =
    let o = opened h c.in_ok-node.was in
    let n = ap (λ (w : Weight). w.size) (c.weight_of-left.ensures o.lower (lefts o)) in
    let m = ap (λ (w : Weight). w.prepared) (c.weight_of-left.ensures o.lower (lefts o)) in
    let xs = entries o.lower in
    let is-here = sym (c.if-not-prepared_here.ensures ∙ ap (λ (d : Node). is_prepared d.entry) o.cell_is) in
    let found = find_mid is_prepared xs o.entry (entries o.upper) c.args.n (omega (arith, m, prepared_entries o.lower, c.if-n-before-2.true)) is-here in
    ap (λ k. Some (c.args.offset + k)) (n ∙ size_entries o.lower) ∙ sym (ap (shifted c.args.offset) (ap (λ v. find is_prepared (entries v) c.args.n) o.is ∙ found))

pub returns-else-n-before-2 : goal.returns-else-n-before-2
returns-else-n-before-2 t c u h =
    let o = opened h c.in_ok-node.was in
    let n = ap (λ (w : Weight). w.size) (c.weight_of-left.ensures o.lower (lefts o)) in
    let m = ap (λ (w : Weight). w.prepared) (c.weight_of-left.ensures o.lower (lefts o)) in
    let xs = entries o.lower in
    let ys = entries o.upper in
    let is-here = sym (c.if-not-prepared_here.ensures ∙ ap (λ (d : Node). is_prepared d.entry) o.cell_is) in
    let one = ap bit is-here in
    let rest = c.args.n - c.weight_of-left.result.prepared - 1 in
    let found = find_behind is_prepared xs o.entry ys c.args.n rest (omega (arith, m, prepared_entries o.lower, one, c.if-n-before.false, c.if-n-before-2.false)) in
    shifted_behind c.args.offset (c.args.offset + c.weight_of-left.result.size) (length xs) _ _ (find is_prepared ys rest) (ap (λ v. find is_prepared (entries v) c.args.n) o.is ∙ found) (omega (arith, n, size_entries o.lower)) (c.nth_below-else-n-before-2.ensures o.upper (rights o))

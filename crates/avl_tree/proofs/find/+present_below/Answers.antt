use Rattle.std.proofs.Common.{Bool, true, false, refl, ◌≡◌, ◌-◌, ◌<◌, ◌∷◌, length, take, sym, ap, ◌∙◌, arith}
use Rattle.std.proofs.lemmas.List.{take-append-le}
use Rattle.std.specs.Int.{from_bool}
use Rattle.indexes.specs.Entries.{is_present}
use Rattle.indexes.specs.Questions.{bit, count}
use Rattle.indexes.proofs.Counts.{bit_small, count_le_length, count_take_le}
use Rattle.avl_tree.specs.declared.node.Node.{Node}
use Rattle.avl_tree.specs.declared.node.Weight.{Weight}
use Rattle.avl_tree.specs.Tree.{entries, size}
use Rattle.avl_tree.proofs.Sizes.{size_entries, present_entries}
use Rattle.avl_tree.proofs.Steps.{count_right}
use Rattle.avl_tree.proofs.Weighs.{opened, lefts, rights, falls_left, falls_right}
use Rattle.avl_tree.proofs.Weighs.{node_at}
use Rattle.avl_tree.proofs.find.+present_below.Goals as goal

one_bit : (b : Bool) → from_bool b ≡ bit b
one_bit true = refl
one_bit false = refl

pub weight_of-left-requires : goal.weight_of-left-requires
weight_of-left-requires t c = let o = opened c.requires.1 c.in-Some.is in (o.lower, lefts o)

pub present_below-requires : goal.present_below-requires
present_below-requires t c =
    let o = opened c.requires.1 c.in-Some.is in
    (omega (arith, falls_left c.requires.1 o, c.decreases), (o.lower, lefts o, omega (arith, c.requires.2, ap size o.is)))

pub returns-then-place-before : goal.returns-then-place-before
returns-then-place-before t c u h =
    let o = opened h c.in-Some.is in
    let n = ap (λ (w : Weight). w.size) (c.weight_of-left.ensures o.lower (lefts o)) in
    c.present_below.ensures o.lower (lefts o) ∙ sym (ap (λ v. count is_present (take c.args.place (entries v))) o.is ∙ ap (count is_present) (take-append-le c.args.place (entries o.lower) (o.entry ∷ entries o.upper) (omega (arith, n, size_entries o.lower, c.if-place-before.true))))

pub present_below-requires-2 : goal.present_below-requires-2
present_below-requires-2 t c =
    let o = opened c.requires.1 c.in-Some.is in
    (omega (arith, falls_right c.requires.1 o, c.decreases), (o.upper, rights o, omega (arith, c.requires.2, ap size o.is)))

pub overflow_add-result-2 : goal.overflow_add-result-2
overflow_add-result-2 t c =
    let o = opened c.requires.1 c.in-Some.is in
    let m = ap (λ (w : Weight). w.present) (c.weight_of-left.ensures o.lower (lefts o)) in
    let part = c.present_below-2.ensures o.upper (rights o) in
    omega (arith, m, part, present_entries o.lower, count_le_length is_present (entries o.lower), count_take_le is_present (entries o.upper) (c.args.place - c.weight_of-left.result.size - 1), count_le_length is_present (entries o.upper), size_entries o.lower, size_entries o.upper, c.requires.2, ap size o.is, c.from-own.ensures ∙ one_bit c.is_present.result ∙ ap bit c.is_present.ensures, bit_small (is_present (node_at c.args.nodes.now c.in-Some.j).entry))

pub returns : goal.returns
returns t c u h =
    let o = opened h c.in-Some.is in
    let n = ap (λ (w : Weight). w.size) (c.weight_of-left.ensures o.lower (lefts o)) in
    let m = ap (λ (w : Weight). w.present) (c.weight_of-left.ensures o.lower (lefts o)) in
    let xs = entries o.lower in
    let ys = entries o.upper in
    let past : length xs < c.args.place = omega (arith, n, size_entries o.lower, c.if-place-before.false) in
    let rest = ap (λ k. count is_present (take (c.args.place - k - 1) ys)) (n ∙ size_entries o.lower) in
    let own = c.from-own.ensures ∙ one_bit c.is_present.result ∙ ap bit c.is_present.ensures ∙ ap (λ (d : Node). bit (is_present d.entry)) o.cell_is in
    let all = ap (λ v. count is_present (take c.args.place (entries v))) o.is ∙ count_right is_present xs o.entry ys c.args.place past in
    let part = c.present_below-2.ensures o.upper (rights o) ∙ rest in
    omega (arith, all, part, own, m, present_entries o.lower)

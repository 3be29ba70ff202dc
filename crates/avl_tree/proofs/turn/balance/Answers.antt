use Rattle.std.proofs.Common.{ap, arith}
use Rattle.avl_tree.specs.declared.node.Weight.{Weight}
use Rattle.avl_tree.proofs.Sizes.{sane}
use Rattle.avl_tree.proofs.turn.balance.Goals as goal

pub overflow_add-upper : goal.overflow_add-upper
overflow_add-upper c =
    let s = c.requires.3 in
    omega (arith, ap (λ (w : Weight). w.height) (c.weight_of-upper.ensures c.requires.2 s.upper), (sane c.requires.2).tall, s.small)

pub overflow_add-lower : goal.overflow_add-lower
overflow_add-lower c =
    let s = c.requires.3 in
    omega (arith, ap (λ (w : Weight). w.height) (c.weight_of-lower.ensures c.requires.0 s.lower), (sane c.requires.0).tall, s.small)

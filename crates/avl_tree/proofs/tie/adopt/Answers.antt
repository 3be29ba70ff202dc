use Rattle.std.proofs.Common.{sym, ap, ◌∙◌, arith}
use Rattle.avl_tree.specs.Nodes.{adopted, below}
use Rattle.avl_tree.proofs.Cells.{set_altered}
use Rattle.avl_tree.proofs.Weighs.{node_at, read_at}
use Rattle.avl_tree.proofs.tie.adopt.Goals as goal

pub returns-in-Some : goal.returns-in-Some
returns-in-Some c =
    let v = c.args.nodes.now in
    set_altered (below c.args.parent) v c.in-Some.i (node_at c.args.nodes.now c.in-Some.i) (omega (arith, c.requires c.in-Some.i c.in-Some.is)) (read_at c.args.nodes.now c.in-Some.i) ∙ sym (ap (λ k. adopted v k c.args.parent) c.in-Some.is)

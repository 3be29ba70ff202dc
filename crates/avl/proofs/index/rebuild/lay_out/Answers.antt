use Rattle.std.proofs.Common.{◌+◌, vec_items, ap, ◌∙◌, arith}
use Rattle.avl_tree.specs.declared.node.Node.{Node}
use Rattle.avl_tree.specs.Nodes.{held_entries}
use Rattle.avl_tree.proofs.Rebuilt.{laid_more, names_more}
use Rattle.avl_tree.proofs.Weighs.{read_again}
use Rattle.avl.proofs.index.rebuild.lay_out.Goals as goal

pub loop-i-preserved : goal.loop-i-preserved
loop-i-preserved c =
    let es = c.args.entries.now in
    let ns = vec_items c.loop-i.nodes in
    let i = c.loop-i.i in
    let n = c.leaf.result in
    let v = c.loop-i.invariant in
    let own = ap (λ (m : Node). m.entry) c.leaf.ensures in
    let is = c.push_reserved.ensures.items in
    record {
      laid = ap held_entries is ∙ laid_more es ns i _ n c.loop-i-test.true (read_again es i _) own v.laid;
      named = rw is (names_more es ns c.loop-i.directory i _ n c.requires.distinct c.loop-i-test.true (read_again es i _) own v.laid (omega (arith, c.requires.wide)) v.named);
      kept = c.push_reserved.ensures.capacity ∙ v.kept;
      long = c.push_reserved.ensures.len ∙ ap (λ k. k + 1) v.long;
    }

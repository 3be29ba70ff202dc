use Rattle.std.proofs.Common.{length, vec_items, ap, arith}
use Rattle.avl.proofs.Facts.{emptied}
use Rattle.avl.proofs.index.AvlIndex.new.Goals as goal

pub invariant_of-result : goal.invariant_of-result
invariant_of-result c =
    let g = emptied (vec_items c.clear.new.self) (vec_items c.args.directory) c.clear.ensures.items in
    record {
      rooted = g.rooted;
      stored = g.stored;
      apart = g.apart;
      covered = g.covered;
      sized = g.sized;
      balanced = g.balanced;
      named = g.named;
      distinct = g.distinct;
      wide = omega arith;
      within = omega (arith, ap length g.meaning);
    }

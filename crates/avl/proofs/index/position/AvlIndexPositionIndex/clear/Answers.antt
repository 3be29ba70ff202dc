use Rattle.std.proofs.Common.{length, vec_items, ap, arith}
use Rattle.avl.proofs.Facts.{emptied}
use Rattle.avl.proofs.index.position.AvlIndexPositionIndex.clear.Goals as goal

pub invariant_of-self : goal.invariant_of-self
invariant_of-self c =
    let s = c.args.self.now in
    let g = emptied (vec_items c.clear.new.self) (vec_items s.directory) c.clear.ensures.items in
    record {
      rooted = g.rooted;
      stored = g.stored;
      apart = g.apart;
      covered = g.covered;
      sized = g.sized;
      balanced = g.balanced;
      named = g.named;
      distinct = g.distinct;
      wide = s.wide;
      within = omega (arith, ap length g.meaning);
    }

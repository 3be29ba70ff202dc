use Rattle.std.proofs.Common.{length, Some, vec_items, ap, ◌∙◌, arith}
use Rattle.std.specs.Vec.{with_items}
use Rattle.std.proofs.lemmas.List.{with_items_is}
use Rattle.std.proofs.lemmas.List.Edits.{length-insert}
use Rattle.avl.specs.Avl.{avl_tree_of, avl_entries}
use Rattle.avl_tree.specs.Turns.{put}
use Rattle.avl.proofs.Facts.{count_of, pushed, sprouts, inserted}
use Rattle.avl_tree.proofs.Ties.{link_within}
use Rattle.avl.proofs.index.AvlIndex.insert.Goals as goal

pub overflow_cast-new : goal.overflow_cast-new
overflow_cast-new c =
    let s = c.args.self.now in
    omega (arith, c.len-new.ensures, count_of s, c.requires.room)

pub push_reserved-requires : goal.push_reserved-requires
push_reserved-requires c =
    let s = c.args.self.now in
    omega (arith, count_of s, c.requires.room)

pub put_below-root-requires : goal.put_below-root-requires
put_below-root-requires c =
    let s = c.args.self.now in
    let v = c.as_mut_slice-nodes in
    let x = c.args.entry in
    let more_is = pushed s x _ _ _ v.ensures.value c.push_reserved.ensures.items c.leaf.ensures in
    (avl_tree_of s, x, sprouts s c.args.place c.len-new.result x v.result.now c.requires.within c.requires.room more_is c.len-new.ensures)

pub adopt-requires : goal.adopt-requires
adopt-requires c i is =
    let s = c.args.self.now in
    let v = c.as_mut_slice-nodes in
    let x = c.args.entry in
    let t = avl_tree_of s in
    let more_is = pushed s x _ _ _ v.ensures.value c.push_reserved.ensures.items c.leaf.ensures in
    let sprout = sprouts s c.args.place c.len-new.result x v.result.now c.requires.within c.requires.room more_is c.len-new.ensures in
    link_within c.put_below-root.new.nodes (Some c.put_below-root.result) (put t c.args.place c.len-new.result x) (c.put_below-root.ensures.after t x sprout) i is

pub invariant_of-self : goal.invariant_of-self
invariant_of-self c =
    let s = c.args.self.now in
    let v = c.as_mut_slice-nodes in
    let w = c.push_reserved.new.self in
    let p = c.put_below-root in
    let x = c.args.entry in
    let more_is = pushed s x _ _ _ v.ensures.value c.push_reserved.ensures.items c.leaf.ensures in
    let is = with_items_is w c.adopt.new.nodes (c.adopt.auto.nodes ∙ p.auto.nodes ∙ v.ensures.len) ∙ c.adopt.ensures in
    let g = inserted s c.args.place c.len-new.result p.result x v.result.now p.new.nodes (vec_items (with_items w c.adopt.new.nodes)) c.requires.within c.requires.new c.requires.room more_is c.len-new.ensures (omega arith) p.ensures is in
    let long = ap length g.meaning ∙ length-insert (avl_entries s) c.args.place x c.requires.within in
    record {
      rooted = g.rooted;
      stored = g.stored;
      apart = g.apart;
      covered = g.covered;
      sized = g.sized;
      balanced = g.balanced;
      named = g.named;
      distinct = g.distinct;
      wide = s.wide;
      within = omega (arith, long, c.requires.room, c.push_reserved.ensures.capacity);
    }

pub returns-clause-after : goal.returns-clause-after
returns-clause-after c =
    let s = c.args.self.now in
    let v = c.as_mut_slice-nodes in
    let w = c.push_reserved.new.self in
    let p = c.put_below-root in
    let x = c.args.entry in
    let more_is = pushed s x _ _ _ v.ensures.value c.push_reserved.ensures.items c.leaf.ensures in
    let is = with_items_is w c.adopt.new.nodes (c.adopt.auto.nodes ∙ p.auto.nodes ∙ v.ensures.len) ∙ c.adopt.ensures in
    let g = inserted s c.args.place c.len-new.result p.result x v.result.now p.new.nodes (vec_items (with_items w c.adopt.new.nodes)) c.requires.within c.requires.new c.requires.room more_is c.len-new.ensures (omega arith) p.ensures is in
    g.meaning

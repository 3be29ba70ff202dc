use Rattle.std.proofs.Common.{ltb, length, vec_items, ap, ◌∙◌, arith}
use Rattle.std.specs.Vec.{with_items}
use Rattle.std.proofs.lemmas.List.{with_items_is}
use Rattle.indexes.proofs.Edits.{length_at_place}
use Rattle.avl.specs.Avl.{avl_tree_of, avl_entries}
use Rattle.avl_tree.specs.Changes.{applied}
use Rattle.avl_tree.specs.Turns.{revised}
use Rattle.avl.proofs.Facts.{stood_at, count_of, changed}
use Rattle.avl_tree.proofs.Ties.{link_within}
use Rattle.avl.proofs.index.AvlIndex.change.Goals as goal

pub revise_below-requires : goal.revise_below-requires
revise_below-requires c =
    let s = c.args.self.now in
    (avl_tree_of s, stood_at s c.as_mut_slice-nodes.result.now c.as_mut_slice-nodes.ensures.value)

pub adopt-requires : goal.adopt-requires
adopt-requires c i is =
    let s = c.args.self.now in
    let t = avl_tree_of s in
    link_within c.revise_below.new.nodes s.root (revised (applied c.args.change) t c.args.place) (c.revise_below.ensures.after t (stood_at s c.as_mut_slice-nodes.result.now c.as_mut_slice-nodes.ensures.value)) i is

pub invariant_of-self : goal.invariant_of-self
invariant_of-self c =
    let s = c.args.self.now in
    let v = c.as_mut_slice-nodes in
    let r = c.revise_below in
    let f = applied c.args.change in
    let is = with_items_is s.nodes c.adopt.new.nodes (c.adopt.auto.nodes ∙ r.auto.nodes ∙ v.ensures.len) ∙ c.adopt.ensures in
    let g = changed s f c.args.place v.result.now r.new.nodes (vec_items (with_items s.nodes c.adopt.new.nodes)) v.ensures.value r.auto.nodes r.ensures is in
    let same = ap length g.meaning ∙ length_at_place f (avl_entries s) c.args.place in
    record {
      rooted = g.rooted;
      stored = g.stored;
      apart = g.apart;
      covered = g.covered;
      sized = g.sized;
      balanced = g.balanced;
      named = g.named;
      distinct = g.distinct;
      wide = s.wide;
      within = omega (arith, same, s.within);
    }

pub returns-clause-answer : goal.returns-clause-answer
returns-clause-answer c =
    let full = c.adopt.auto.nodes ∙ c.revise_below.auto.nodes ∙ c.as_mut_slice-nodes.ensures.len in
    ap (ltb c.args.place) (full ∙ count_of c.args.self.now)

pub returns-clause-after : goal.returns-clause-after
returns-clause-after c =
    let s = c.args.self.now in
    let v = c.as_mut_slice-nodes in
    let r = c.revise_below in
    let is = with_items_is s.nodes c.adopt.new.nodes (c.adopt.auto.nodes ∙ r.auto.nodes ∙ v.ensures.len) ∙ c.adopt.ensures in
    let g = changed s (applied c.args.change) c.args.place v.result.now r.new.nodes (vec_items (with_items s.nodes c.adopt.new.nodes)) v.ensures.value r.auto.nodes r.ensures is in
    g.meaning

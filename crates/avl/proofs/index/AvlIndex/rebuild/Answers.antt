use Rattle.std.proofs.Common.{ℕ, List, length, vec_items, sym, ap, ◌∙◌, subst, arith}
use Rattle.std.specs.Vec.{with_items}
use Rattle.std.proofs.lemmas.List.{with_items_is}
use Rattle.indexes.specs.Changes.{trimmed}
use Rattle.indexes.specs.Laws.{Distinct}
use Rattle.indexes.specs.Questions.{characters}
use Rattle.indexes.proofs.Chains.{distinct_trimmed, length_trimmed}
use Rattle.avl.specs.Avl.{avl_tree_of, avl_entries}
use Rattle.avl_tree.specs.declared.node.Node.{Node}
use Rattle.avl_tree.specs.Nodes.{held_entries}
use Rattle.avl_tree.specs.Shape.{Named}
use Rattle.avl.proofs.Facts.{held_at, spared, laid_length, rebuilt}
use Rattle.avl_tree.proofs.Sizes.{size_entries}
use Rattle.avl_tree.proofs.Ties.{link_within}
use Rattle.avl.proofs.index.AvlIndex.rebuild.Goals as goal

pub collect_below-requires : goal.collect_below-requires
collect_below-requires c =
    let s = c.args.self.now in
    (avl_tree_of s, held_at s c.deref.result.now c.deref.ensures.value, omega (arith, c.clear.ensures.len, c.clear.ensures.capacity, size_entries (avl_tree_of s), s.within))

pub lay_out-requires : goal.lay_out-requires
lay_out-requires c =
    let s = c.args.self.now in
    let es = avl_entries s in
    let spare_is = spared s c.deref.result.now _ _ _ c.deref.ensures.value c.clear.ensures.items c.collect_below.ensures.after c.trim_cells.ensures.after in
    let at = c.deref-2.ensures.value ∙ spare_is in
    let count = ap length at in
    record {
      room = omega (arith, count, length_trimmed es, s.within);
      small = omega (arith, count, length_trimmed es, s.within);
      wide = c.deref_mut.ensures.len ∙ s.wide;
      distinct = subst (λ xs. Distinct (characters xs)) (sym at) (distinct_trimmed es s.distinct);
    }

pub build-self-requires-clause-small : goal.build-self-requires-clause-small
build-self-requires-clause-small c =
    let s = c.args.self.now in
    let es = avl_entries s in
    let spare_is = spared s c.deref.result.now _ _ _ c.deref.ensures.value c.clear.ensures.items c.collect_below.ensures.after c.trim_cells.ensures.after in
    let v = c.as_mut_slice-nodes in
    let long = laid_length v.result.now (trimmed es) (ap held_entries v.ensures.value ∙ c.lay_out.ensures.after ∙ c.deref-2.ensures.value ∙ spare_is) in
    omega (arith, long, length_trimmed es, s.within)

pub adopt-requires : goal.adopt-requires
adopt-requires c i is =
    let b = c.build-self.ensures in
    link_within c.build-self.new.nodes c.build-self.result b.tree b.held i is

pub invariant_of-self : goal.invariant_of-self
invariant_of-self c =
    let s = c.args.self.now in
    let es = avl_entries s in
    let spare_is = spared s c.deref.result.now _ _ _ c.deref.ensures.value c.clear.ensures.items c.collect_below.ensures.after c.trim_cells.ensures.after in
    let v = c.as_mut_slice-nodes in
    let laid = c.lay_out.new in
    let held = ap held_entries v.ensures.value ∙ c.lay_out.ensures.after ∙ c.deref-2.ensures.value ∙ spare_is in
    let count = c.len.ensures ∙ c.trim_cells.new.cells.ok.0 ∙ ap length spare_is in
    let dir_is = with_items_is s.directory laid.directory (c.lay_out.auto.directory ∙ c.deref_mut.ensures.len) in
    let named = subst (λ (d : List ℕ). Named v.result.now d) (sym dir_is) (subst (λ (qs : List Node). Named qs laid.directory) (sym v.ensures.value) c.lay_out.ensures.named) in
    let is = with_items_is laid.nodes c.adopt.new.nodes (c.adopt.auto.nodes ∙ c.build-self.auto.nodes ∙ v.ensures.len) ∙ c.adopt.ensures in
    let g = rebuilt v.result.now c.build-self.new.nodes (vec_items (with_items laid.nodes c.adopt.new.nodes)) c.build-self.result c.len.result (vec_items (with_items s.directory laid.directory)) (trimmed es) held count named c.build-self.ensures is in
    record {
      rooted = g.rooted;
      stored = g.stored;
      apart = g.apart;
      covered = g.covered;
      sized = g.sized;
      balanced = g.balanced;
      named = g.named;
      distinct = g.distinct;
      wide = s.wide;
      within = omega (arith, ap length g.meaning, length_trimmed es, s.within, c.lay_out.ensures.kept, c.trim_cells.ensures.kept, c.collect_below.ensures.kept, c.clear.ensures.capacity);
    }

pub returns-clause-after : goal.returns-clause-after
returns-clause-after c =
    let s = c.args.self.now in
    let es = avl_entries s in
    let spare_is = spared s c.deref.result.now _ _ _ c.deref.ensures.value c.clear.ensures.items c.collect_below.ensures.after c.trim_cells.ensures.after in
    let v = c.as_mut_slice-nodes in
    let laid = c.lay_out.new in
    let held = ap held_entries v.ensures.value ∙ c.lay_out.ensures.after ∙ c.deref-2.ensures.value ∙ spare_is in
    let count = c.len.ensures ∙ c.trim_cells.new.cells.ok.0 ∙ ap length spare_is in
    let dir_is = with_items_is s.directory laid.directory (c.lay_out.auto.directory ∙ c.deref_mut.ensures.len) in
    let named = subst (λ (d : List ℕ). Named v.result.now d) (sym dir_is) (subst (λ (qs : List Node). Named qs laid.directory) (sym v.ensures.value) c.lay_out.ensures.named) in
    let is = with_items_is laid.nodes c.adopt.new.nodes (c.adopt.auto.nodes ∙ c.build-self.auto.nodes ∙ v.ensures.len) ∙ c.adopt.ensures in
    let g = rebuilt v.result.now c.build-self.new.nodes (vec_items (with_items laid.nodes c.adopt.new.nodes)) c.build-self.result c.len.result (vec_items (with_items s.directory laid.directory)) (trimmed es) held count named c.build-self.ensures is in
    g.meaning

use Rattle.std.proofs.Common.{◌≡◌, take, vec_items, vec_len, vec_capacity}
use Rattle.avl_tree.specs.Nodes.{held_entries}
use Rattle.avl_tree.specs.Shape.{Named}
use Rattle.avl.proofs.index.rebuild.lay_out.Given as goal

abbrev pub invariant-loop-i : goal.invariant-loop-i
invariant-loop-i l = record {
  laid : held_entries (vec_items l.nodes) ≡ take l.i l.entries;
  named : Named (vec_items l.nodes) l.directory;
  kept : vec_capacity l.nodes ≡ vec_capacity l.initial.nodes;
  long : vec_len l.nodes ≡ l.i;
}

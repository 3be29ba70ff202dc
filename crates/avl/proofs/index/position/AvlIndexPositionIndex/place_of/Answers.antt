use Rattle.std.proofs.Common.{◌+◌, ◌≤◌, length, Some, sym, ap, ◌∙◌, arith, ltb-false}
use Rattle.std.proofs.lemmas.Option.{slice_get_within}
use Rattle.indexes.specs.declared.entry.Entry.{Entry}
use Rattle.avl.specs.Avl.{avl_tree_of, avl_entries}
use Rattle.avl.proofs.Facts.{leads_at, elsewhere, located_at}
use Rattle.avl_tree.specs.declared.node.Node.{Node}
use Rattle.avl_tree.specs.declared.node.Weight.{Weight}
use Rattle.avl_tree.specs.Tree.{node, size}
use Rattle.avl_tree.proofs.Cells.{read_is}
use Rattle.avl_tree.proofs.Seeks.{place_seen}
use Rattle.avl.proofs.index.position.AvlIndexPositionIndex.place_of.Goals as goal

pub returns-in_err-node : goal.returns-in_err-node
returns-in_err-node c =
    let s = c.args.self.now in
    let v = c.as_slice-nodes in
    let i = c.index-i.result.now in
    let past : length v.result.now ≤ i = ltb-false i (length v.result.now) (sym c.in_err-node.ensures.lookup.0) in
    let away = elsewhere s v.result.now c.args.character i v.ensures.value (leads_at s c.args.character i (omega (arith, c.ranges.character)) c.index-i.ensures) (λ n at _. omega (arith, slice_get_within v.result.now i n at, past)) in
    record { answer = c.from_residual.ensures ∙ away }

pub returns-then-node-character : goal.returns-then-node-character
returns-then-node-character c =
    let s = c.args.self.now in
    let v = c.as_slice-nodes in
    let i = c.index-i.result.now in
    record { answer = elsewhere s v.result.now c.args.character i v.ensures.value (leads_at s c.args.character i (omega (arith, c.ranges.character)) c.index-i.ensures) (λ n at same. c.if-node-character.true (ap (λ (m : Node). m.entry.character) (read_is v.result.now i n c.in_ok-node.node.now at c.in_ok-node.ensures.lookup.1) ∙ same)) }

pub weight_of-before-requires : goal.weight_of-before-requires
weight_of-before-requires c =
    let v = c.as_slice-nodes in
    let look = c.in_ok-node.ensures.lookup in
    let l = located_at c.args.self.now v.result.now c.index-i.result.now c.in_ok-node.node.now v.ensures.value look.0 look.1 in
    (l.lower, l.left_held)

pub place_above-requires : goal.place_above-requires
place_above-requires c =
    let s = c.args.self.now in
    let v = c.as_slice-nodes in
    let look = c.in_ok-node.ensures.lookup in
    let l = located_at s v.result.now c.index-i.result.now c.in_ok-node.node.now v.ensures.value look.0 look.1 in
    let n = ap (λ (w : Weight). w.size) (c.weight_of-before.ensures l.lower l.left_held) in
    let within = slice_get_within (avl_entries s) (l.offset + size l.lower) l.entry l.stands in
    (avl_tree_of s, node l.lower c.index-i.result.now l.entry l.upper, l.offset, l.climbs, omega (arith, n, within, s.within))

pub returns : goal.returns
returns c =
    let s = c.args.self.now in
    let v = c.as_slice-nodes in
    let look = c.in_ok-node.ensures.lookup in
    let l = located_at s v.result.now c.index-i.result.now c.in_ok-node.node.now v.ensures.value look.0 look.1 in
    let n = ap (λ (w : Weight). w.size) (c.weight_of-before.ensures l.lower l.left_held) in
    let at = c.place_above.ensures (avl_tree_of s) (node l.lower c.index-i.result.now l.entry l.upper) l.offset l.climbs ∙ ap (λ k. l.offset + k) n in
    record { answer = ap Some at ∙ sym (place_seen (avl_entries s) (l.offset + size l.lower) c.args.character l.entry s.distinct l.stands (ap (λ (e : Entry). e.character) (sym l.entry_is) ∙ c.if-node-character.false)) }

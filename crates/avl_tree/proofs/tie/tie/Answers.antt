use Rattle.std.proofs.Common.{◌≡◌, ◌<◌, ◌∷◌, ◌++◌, length, Some, sym, ap, ◌∙◌, subst, arith, length-set}
use Rattle.std.proofs.lemmas.Option.{slice_get_within}
use Rattle.indexes.specs.declared.entry.Entry.{Entry}
use Rattle.avl_tree.specs.declared.node.Node.{Node}
use Rattle.avl_tree.specs.declared.node.Weight.{Weight}
use Rattle.avl_tree.specs.Nodes.{held_entries, Sides, Held, Kept, Sane, over, tied, adopted}
use Rattle.avl_tree.specs.Tree.{Tree, node, numbers, weight, joined}
use Rattle.avl_tree.proofs.Cells.{read_is, set_altered}
use Rattle.avl_tree.proofs.Sizes.{sane}
use Rattle.avl_tree.proofs.Ties.{link_within, length_adopted, entries_tied, tied_held, tied_kept}
use Rattle.avl_tree.proofs.Weighs.{node_at, read_at}
use Rattle.avl_tree.proofs.tie.tie.Goals as goal

pub join-weight-requires : goal.join-weight-requires
join-weight-requires c =
    let l = c.requires.0 in
    let r = c.requires.2 in
    let s = c.requires.3 in
    let a = c.weight_of.ensures l s.lower in
    let b = c.weight_of-2.ensures r s.upper in
    let an = ap (λ (w : Weight). w.size) a in
    let bn = ap (λ (w : Weight). w.size) b in
    record { a = subst Sane (sym a) (sane l); b = subst Sane (sym b) (sane r); small = omega (arith, an, bn, s.small) }

pub adopt-requires : goal.adopt-requires
adopt-requires c i is =
    omega (arith, link_within c.args.nodes.now c.args.left c.requires.0 c.requires.3.lower i is, length-set {A = Node})

pub adopt-requires-2 : goal.adopt-requires-2
adopt-requires-2 c i is =
    omega (arith, link_within c.args.nodes.now c.args.right c.requires.2 c.requires.3.upper i is, ap length c.adopt.ensures, length_adopted, length-set {A = Node})

pub returns : goal.returns
returns c =
    let v = c.args.nodes.now in
    let ns = v in
    let j = c.args.j in
    let left = c.args.left in
    let right = c.args.right in
    let w = c.join-weight.result in
    let n = (node_at c.args.nodes.now c.args.j) in
    let within : j < length ns = slice_get_within ns j c.requires.3.old c.requires.3.at in
    let written = set_altered (over left right w) ns j n within (read_at c.args.nodes.now c.args.j) in
    let is : c.adopt-2.new.nodes ≡ tied ns left j right w = c.adopt-2.ensures ∙ ap (λ ms. adopted ms right (Some j)) (c.adopt.ensures ∙ ap (λ ms. adopted ms left (Some j)) written) in
    let weighs : (l : Tree) (e : Entry) (r : Tree) → Sides ns left right l j e r → w ≡ joined (weight l) e (weight r) =
    λ l e r s.
    c.join-weight.ensures ∙ ap (λ x. joined x n.entry c.weight_of-2.result) (c.weight_of.ensures l s.lower)
    ∙ ap (λ (x : Entry). joined (weight l) x c.weight_of-2.result) (ap (λ (m : Node). m.entry) (read_is ns j s.old n s.at (read_at c.args.nodes.now c.args.j)) ∙ s.entry_is)
    ∙ ap (λ x. joined (weight l) e x) (c.weight_of-2.ensures r s.upper) in
    record {
      after =
          λ l e r s. subst (λ ms. Held ms (Some j) (node l j e r)) (sym (is ∙ ap (λ x. tied ns left j right x) (weighs l e r s))) (tied_held ns left right l j e r s);
      kept = λ l e r s. subst (λ ms. Kept ns ms (numbers l ++ j ∷ numbers r)) (sym (is ∙ ap (λ x. tied ns left j right x) (weighs l e r s))) (tied_kept ns left right l j e r s);
      same = ap held_entries is ∙ entries_tied ns left j right w;
    }

use Rattle.std.proofs.Common.{[], ◌∷◌, ◌++◌, length, vec_items, sym, ap, ◌∙◌, arith, length-append}
use Rattle.std.proofs.lemmas.List.{append_assoc}
use Rattle.avl_tree.specs.declared.node.Node.{Node}
use Rattle.avl_tree.specs.Tree.{entries, size}
use Rattle.avl_tree.proofs.Sizes.{size_entries}
use Rattle.avl_tree.proofs.Weighs.{opened, lefts, rights, falls_left, falls_right}
use Rattle.avl_tree.proofs.Weighs.{node_at}
use Rattle.avl_tree.proofs.find.+collect_below.Goals as goal

pub collect_below-requires : goal.collect_below-requires
collect_below-requires t c =
    let o = opened c.requires.1 c.in-Some.is in
    (omega (arith, falls_left c.requires.1 o, c.decreases), (o.lower, lefts o, omega (arith, c.requires.2, ap size o.is)))

pub push_reserved-requires : goal.push_reserved-requires
push_reserved-requires t c =
    let o = opened c.requires.1 c.in-Some.is in
    let out = c.args.out.now in
    let long = ap length (c.collect_below.ensures.after o.lower (lefts o)) ∙ length-append (vec_items out) (entries o.lower) in
    omega (arith, c.requires.2, ap size o.is, long, size_entries o.lower, out.ok.0, c.collect_below.new.out.ok.0, c.collect_below.ensures.kept)

pub collect_below-requires-in-Some : goal.collect_below-requires-in-Some
collect_below-requires-in-Some t c =
    let o = opened c.requires.1 c.in-Some.is in
    let out = c.args.out.now in
    let long = ap length (c.collect_below.ensures.after o.lower (lefts o)) ∙ length-append (vec_items out) (entries o.lower) in
    (omega (arith, falls_right c.requires.1 o, c.decreases), (o.upper, rights o, omega (arith, c.requires.2, ap size o.is, long, size_entries o.lower, out.ok.0, c.collect_below.new.out.ok.0, c.collect_below.ensures.kept, c.push_reserved.ensures.len, c.push_reserved.ensures.capacity)))

pub returns-in-Some : goal.returns-in-Some
returns-in-Some t c =
    let out = vec_items c.args.out.now in
    record {
      after = λ u h.
          let o = opened h c.in-Some.is in
          let first = c.collect_below.ensures.after o.lower (lefts o) in
          let second = c.push_reserved.ensures.items ∙ ap (λ es. es ++ (node_at c.args.nodes.now c.in-Some.j).entry ∷ []) first in
          let own = ap (λ (m : Node). (out ++ entries o.lower) ++ m.entry ∷ []) o.cell_is in
          c.collect_below-in-Some.ensures.after o.upper (rights o) ∙ ap (λ es. es ++ entries o.upper) (second ∙ own) ∙ append_assoc (out ++ entries o.lower) (o.entry ∷ []) (entries o.upper) ∙ append_assoc out (entries o.lower) (o.entry ∷ entries o.upper) ∙ sym (ap (λ v. out ++ entries v) o.is);
      kept = c.collect_below-in-Some.ensures.kept ∙ c.push_reserved.ensures.capacity ∙ c.collect_below.ensures.kept;
    }

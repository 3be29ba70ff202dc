use Rattle.std.proofs.Common.{◌≡◌, ◌-◌, set, sym, refl, ap, ◌∙◌, subst, arith}
use Rattle.indexes.specs.declared.entry.Entry.{Entry}
use Rattle.avl_tree.specs.Changes.{applied}
use Rattle.avl_tree.specs.declared.change.Change.{Change}
use Rattle.avl_tree.specs.declared.change.Change.TheVariants.{Prepared, Effect}
use Rattle.avl_tree.specs.declared.node.Weight.{Weight}
use Rattle.avl_tree.specs.Nodes.{Held, Ready, Makes}
use Rattle.avl_tree.specs.Tree.{Tree, node, size}
use Rattle.avl_tree.proofs.Cells.{set_altered}
use Rattle.avl_tree.proofs.Revises.{root, retitled, stood_left, stood_right, ready_revised_left, ready_revised_right, ready_here, revised_left, revised_right, revised_here}
use Rattle.avl_tree.proofs.Ties.{link_within}
use Rattle.avl_tree.proofs.Weighs.{lefts, falls_left, falls_right}
use Rattle.avl_tree.proofs.Weighs.{node_at, read_at}
use Rattle.avl_tree.proofs.change.+revise_below.Goals as goal
use Rattle.avl_tree.proofs.change.+revise_below.Goals.{then-place-before, else-place-before+then-place-before-2, else-place-before+else-place-before-2}

keeps : (d : Change) (e : Entry) → (applied d e).character ≡ e.character
keeps (Prepared k) e = refl
keeps (Effect f) e = refl

pub weight_of-before-requires : goal.weight_of-before-requires
weight_of-before-requires t c = let o = root (applied c.args.change) c.args.nodes.now c.args.link c.in-Some.j c.in-Some.is c.requires.0 c.requires.1 in (o.lower, lefts o)

pub revise_below-requires : goal.revise_below-requires
revise_below-requires t c =
    let o = root (applied c.args.change) c.args.nodes.now c.args.link c.in-Some.j c.in-Some.is c.requires.0 c.requires.1 in
    (omega (arith, falls_left c.requires.1.held o, c.decreases), (o.lower, stood_left (applied c.args.change) c.args.nodes.now c.args.link c.in-Some.j c.in-Some.is c.requires.0 c.requires.1))

pub revise_below-requires-else-place-before-2 : goal.revise_below-requires-else-place-before-2
revise_below-requires-else-place-before-2 t c =
    let o = root (applied c.args.change) c.args.nodes.now c.args.link c.in-Some.j c.in-Some.is c.requires.0 c.requires.1 in
    (omega (arith, falls_right c.requires.1.held o, c.decreases), (o.upper, stood_right (applied c.args.change) c.args.nodes.now c.args.link c.in-Some.j c.in-Some.is c.requires.0 c.requires.1))

pub tie-requires : goal.tie-requires
tie-requires t c =
    let ns = c.args.nodes.now in
    let j = c.in-Some.j in
    let n = node_at ns j in
    let f = applied c.args.change in
    let u = c.requires.0 in
    let s = c.requires.1 in
    let read = read_at ns j in
    elim c.if-place-before.branch [
      | then-place-before w ↦
          subst (λ ms. Ready ms n.left j n.right) (sym w.nodes-is) (ready_revised_left f ns c.args.link j c.in-Some.is w.revise_below.new.nodes c.args.place w.revise_below.ensures u s)
      | else-place-before+then-place-before-2 w ↦
          let within = link_within ns c.args.link u s.held j c.in-Some.is in
          let put = w.nodes-is ∙ ap (λ (e : Entry). set ns j (record { entry = e; left = n.left; right = n.right; parent = n.parent; weight = n.weight })) w.apply.ensures ∙ set_altered (retitled f) ns j n within read in
          subst (λ ms. Ready ms n.left j n.right) (sym put) (ready_here f ns c.args.link j c.in-Some.is u s)
      | else-place-before+else-place-before-2 w ↦
          subst (λ ms. Ready ms n.left j n.right) (sym w.nodes-is) (ready_revised_right f ns c.args.link j c.in-Some.is w.revise_below-else-place-before-2.new.nodes c.args.place (c.args.place - c.weight_of-before.result.size - 1) w.revise_below-else-place-before-2.ensures u s)
    ]

pub returns : goal.returns
returns t c =
    let ns = c.args.nodes.now in
    let j = c.in-Some.j in
    let n = node_at ns j in
    let f = applied c.args.change in
    let read = read_at ns j in
    let place = c.args.place in
    let q = place - c.weight_of-before.result.size - 1 in
    let ks = c.tie.new.nodes in
    let i = c.tie.result in
    let sized : (l : Tree) → Held ns n.left l → c.weight_of-before.result.size ≡ size l = λ l h. ap (λ (w : Weight). w.size) (c.weight_of-before.ensures l h) in
    elim c.if-place-before.branch [
      | then-place-before w ↦
          revised_left f ns c.args.link j c.in-Some.is w.revise_below.new.nodes place ks i (λ l h. omega (arith, sized l h, w.if-place-before.true)) w.revise_below.ensures (subst (λ ms. Makes node ms ks n.left j n.right i) w.nodes-is c.tie.ensures)
      | else-place-before+then-place-before-2 w ↦
          let within = link_within ns c.args.link c.requires.0 c.requires.1.held j c.in-Some.is in
          let put = w.nodes-is ∙ ap (λ (e : Entry). set ns j (record { entry = e; left = n.left; right = n.right; parent = n.parent; weight = n.weight })) w.apply.ensures ∙ set_altered (retitled f) ns j n within read in
          revised_here f ns c.args.link j c.in-Some.is (keeps c.args.change) ks i place (λ l h. omega (arith, sized l h, w.if-place-before-2.true)) (subst (λ ms. Makes node ms ks n.left j n.right i) put c.tie.ensures)
      | else-place-before+else-place-before-2 w ↦
          revised_right f ns c.args.link j c.in-Some.is w.revise_below-else-place-before-2.new.nodes place ks i q (λ l h. (omega (arith, sized l h, w.if-place-before.false, w.if-place-before-2.false), ap (λ m. place - m - 1) (sized l h))) w.revise_below-else-place-before-2.ensures (subst (λ ms. Makes node ms ks n.left j n.right i) w.nodes-is c.tie.ensures)
    ]

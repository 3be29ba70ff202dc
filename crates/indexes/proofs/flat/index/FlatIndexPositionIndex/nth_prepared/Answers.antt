use Rattle.std.proofs.Common.{◌≡◌, ◌+◌, true, false, take, sym, ap, ◌∙◌, subst, arith}
use Rattle.std.proofs.lemmas.List.{take_all}
use Rattle.indexes.specs.Entries.{is_prepared}
use Rattle.indexes.specs.Questions.{bit, count, find}
use Rattle.indexes.proofs.Counts.{count_here}
use Rattle.indexes.proofs.Finds.{find_at, find_none}
use Rattle.indexes.proofs.flat.index.FlatIndexPositionIndex.nth_prepared.Goals as goal
use Rattle.indexes.proofs.flat.index.FlatIndexPositionIndex.nth_prepared.Goals.{then-prepared_here+else-seen-n, else-prepared_here}

pub returns-then-seen-n : goal.returns-then-seen-n
returns-then-seen-n c =
    let xs = c.deref-entry-items.result.now in
    let same = c.deref-entry-items.ensures.value in
    let counted = subst (λ ys. c.loop-place.seen ≡ count is_prepared (take c.loop-place.place ys)) (sym same) c.loop-place.invariant.0 in
    let before : count is_prepared (take c.loop-place.place xs) ≡ c.args.n = omega (arith, counted, c.if-seen-n.true) in
    record {
      answer =
          sym (find_at is_prepared xs c.loop-place.place _ c.loop-place-test.true (sym c.if-prepared_here.ensures)) ∙ ap (find is_prepared xs) before ∙ ap (λ ys. find is_prepared ys c.args.n) same;
    }

pub loop-place-preserved : goal.loop-place-preserved
loop-place-preserved c =
    let xs = c.deref-entry-items.result.now in
    let same = c.deref-entry-items.ensures.value in
    let i = c.loop-place.place in
    elim c.if-prepared_here.branch [
      | then-prepared_here+else-seen-n w ↦
          let step = subst (λ ys. count is_prepared (take (i + 1) ys) ≡ count is_prepared (take i ys) + bit true) same (count_here is_prepared xs i _ true c.loop-place-test.true w.if-prepared_here.ensures) in
          let other = w.if-seen-n.false in
          (omega (arith, step, w.seen-is), omega (arith, w.seen-is), omega (arith, w.seen-is, other))
      | else-prepared_here w ↦
          let step = subst (λ ys. count is_prepared (take (i + 1) ys) ≡ count is_prepared (take i ys) + bit false) same (count_here is_prepared xs i _ false c.loop-place-test.true w.if-prepared_here.ensures) in
          (omega (arith, step, w.seen-is), omega (arith, w.seen-is), omega (arith, w.seen-is))
    ]

pub returns : goal.returns
returns c =
    let xs = c.deref-entry-items.result.now in
    let same = c.deref-entry-items.ensures.value in
    let counted = subst (λ ys. c.loop-place.seen ≡ count is_prepared (take c.loop-place.place ys)) (sym same) c.loop-place.invariant.0 in
    let all = counted ∙ ap (count is_prepared) (take_all c.loop-place.place xs (omega (arith, c.loop-place-test.false))) in
    record { answer = sym (find_none is_prepared xs c.args.n (omega (arith, all))) ∙ ap (λ ys. find is_prepared ys c.args.n) same }

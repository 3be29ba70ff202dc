use Rattle.std.proofs.Common.{is_some, sym, ap, ◌∙◌, arith}
use Rattle.indexes.proofs.Places.{put_past, put_full, put_listed, put_made}
use Rattle.avl.specs.Avl.{avl_entries, avl_room}
use Rattle.avl.proofs.Facts.{count_of}
use Rattle.avl.proofs.index.position.AvlIndexPositionIndex.put.Goals as goal
use Rattle.avl.proofs.index.position.AvlIndexPositionIndex.put.Goals.{then-place-count-via-then-place-count, then-place-count-via-else-place-count+then-count-capacity, then-place-count-via-else-place-count+else-count-capacity+then-is_some}

pub returns-then-place-count-clause-answer : goal.returns-then-place-count-clause-answer
returns-then-place-count-clause-answer c =
    let s = c.args.self.now in
    let es = avl_entries s in
    let x = c.args.entry.character in
    elim c.then-place-count.branch [
      | then-place-count-via-then-place-count w ↦
          sym (put_past es (avl_room s) c.args.place x (omega (arith, count_of s, c.len-count.ensures, w.if-place-count.true)))
      | then-place-count-via-else-place-count+then-count-capacity w ↦
          sym (put_full es (avl_room s) c.args.place x (omega (arith, count_of s, c.len-count.ensures, w.if-count-capacity.true, w.capacity.ensures.answer)))
      | then-place-count-via-else-place-count+else-count-capacity+then-is_some w ↦
          sym (put_listed es (avl_room s) c.args.place x (ap is_some (sym w.place_of.ensures.answer) ∙ sym w.if-is_some.ensures))
    ]

pub insert-requires : goal.insert-requires
insert-requires c =
    let s = c.args.self.now in
    record {
      within = omega (arith, count_of s, c.len-count.ensures);
      new = ap is_some (sym c.place_of.ensures.answer) ∙ sym c.if-is_some.ensures;
      room = omega (arith, count_of s, c.len-count.ensures, c.capacity.ensures.answer);
    }

pub returns-clause-answer : goal.returns-clause-answer
returns-clause-answer c =
    let s = c.args.self.now in
    sym (put_made (avl_entries s) (avl_room s) c.args.place c.args.entry.character (omega (arith, count_of s, c.len-count.ensures)) (ap is_some (sym c.place_of.ensures.answer) ∙ sym c.if-is_some.ensures) (omega (arith, count_of s, c.len-count.ensures, c.capacity.ensures.answer)))

use Rattle.std.proofs.Common.{vec_items}
use Rattle.name_index.proofs.Growth.{grown_first, grown_hung}
use Rattle.name_index.proofs.index.NameIndex.add.Goals as goal

pub invariant_of-self-clause-sound : goal.invariant_of-self-clause-sound
invariant_of-self-clause-sound c = (grown_first (vec_items c.args.self.now.nodes) _ c.args.name c.in-Empty.ensures.answer (cc (c.push_reserved.ensures.items, c.new.ensures.answer))).0

pub invariant_of-self-in-Free-clause-sound : goal.invariant_of-self-in-Free-clause-sound
invariant_of-self-in-Free-clause-sound c =
    let s = c.args.self.now in
    let free = c.in-Free.ensures.answer in
    (grown_hung (vec_items s.nodes) _ c.args.name c.in-Free.node c.in-Free.depth s.sound free.0 free.1 (cc (c.hang.ensures.after, c.turn.ensures.answer))).0

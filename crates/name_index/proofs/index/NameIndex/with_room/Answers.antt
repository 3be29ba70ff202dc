use Rattle.name_index.proofs.Growth.{sound_empty}
use Rattle.name_index.proofs.index.NameIndex.with_room.Goals as goal

pub invariant_of-result-clause-sound : goal.invariant_of-result-clause-sound
invariant_of-result-clause-sound c = sound_empty _ c.in_ok-nodes.ensures.items

use Rattle.name_index.proofs.Growth.{sound_empty}
use Rattle.name_index.proofs.index.NameIndex.clear.Goals as goal

pub invariant_of-self-clause-sound : goal.invariant_of-self-clause-sound
invariant_of-self-clause-sound c = sound_empty _ c.clear.ensures.items

use Rattle.name_index.proofs.EveryIndex.{lawful}
use Rattle.name_index.proofs.laws.every_index_is_lawful.Goals as goal

pub returns : goal.returns
returns c = record { theorem = lawful }

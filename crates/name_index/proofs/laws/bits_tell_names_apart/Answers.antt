use Rattle.name_index.proofs.Bits.{names_same}
use Rattle.name_index.proofs.laws.bits_tell_names_apart.Goals as goal

pub returns : goal.returns
returns c = record { theorem = names_same }

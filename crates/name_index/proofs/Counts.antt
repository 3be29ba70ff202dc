-- How many names an index has.
use Rattle.std.proofs.Common.{◌≡◌, length, vec_items, vec_len, sym, ◌∙◌}
use Rattle.std.proofs.lemmas.List.{length-map}
use Rattle.name_index.specs.declared.index.NameIndex.{NameIndex}
use Rattle.name_index.specs.Walks.{name_of}
use Rattle.name_index.specs.Names.{names_of}

-- as many as nodes
pub counted : (s : NameIndex) → vec_len s.nodes ≡ length (names_of s)
counted s = s.nodes.ok.0 ∙ sym (length-map (vec_items s.nodes) name_of)

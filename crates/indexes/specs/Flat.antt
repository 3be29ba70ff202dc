-- What a flat index means.
use Rattle.std.specs.Prelude.{ℕ, List, min, vec_items, vec_capacity}
use Rattle.std.proofs.Common.{arith}
use Rattle.indexes.specs.declared.entry.Entry.{Entry}
use Rattle.indexes.specs.declared.flat.FlatIndex.{FlatIndex}
use Rattle.indexes.specs.Laws.{IndexLaws}

abbrev pub flat_entries : FlatIndex → List Entry
flat_entries s = vec_items s.cells

abbrev pub flat_room : FlatIndex → ℕ
flat_room s = min (vec_capacity s.cells) 65536

pub flat_laws : IndexLaws flat_entries flat_room
flat_laws =
    record {
      distinct = λ s. s.distinct;
      within = λ s. omega (arith, s.cells.ok.0);
      small = λ s. omega arith;
    }

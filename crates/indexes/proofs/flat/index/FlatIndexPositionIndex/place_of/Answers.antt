use Rattle.std.proofs.Common.{rules, vec_items, sym, ◌∙◌}
use borrow.Author.Tests.{tests}
use Rattle.std.proofs.lemmas.Iterator.{YieldsList-from_slice}
use Rattle.std.proofs.lemmas.Iterator.Search.{position_from_yields_List}
use Rattle.indexes.specs.Entries.{has}
use Rattle.indexes.proofs.Finds.{place_of_is}
use Rattle.indexes.proofs.flat.index.FlatIndexPositionIndex.place_of.Goals as goal

pub returns : goal.returns
returns c =
    let xs = vec_items c.args.self.now.cells in
    record {
      answer = position_from_yields_List (has c.args.character) _ _ _ c.position.ensures.ran (YieldsList-from_slice xs cc) (λ x b q k. search (rules, tests)) ∙ sym (place_of_is xs c.args.character);
    }

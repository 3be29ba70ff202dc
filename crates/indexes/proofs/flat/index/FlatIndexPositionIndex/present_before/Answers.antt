use Rattle.std.proofs.Common.{rules, arith, ◌^◌, ◌≤◌, length}
use Rattle.std.proofs.lemmas.Iterator.{YieldsList-from_slice}
use Rattle.std.proofs.lemmas.Iterator.Adapters.{fits_from_length, at_most_from_yields_List}
use Rattle.indexes.proofs.flat.index.FlatIndexPositionIndex.present_before.Goals as goal

-- at most 65,536 entries, each of which counts for one at most
pub sum-requires-clause-fits : goal.sum-requires-clause-fits
sum-requires-clause-fits c =
    let few : length c.in_ok-front.front.now ≤ 65536 = search (rules, c.args.self.now.long, c.args.self.now.cells.ok.0) in
    fits_from_length _ _ 65536 (2 ^ 64) (at_most_from_yields_List (YieldsList-from_slice c.in_ok-front.front.now cc) few) c.map.ensures.closure (omega arith) (λ x r q k. search rules)

use Rattle.std.proofs.Common.{◌≡◌, ◌≤◌, take, vec_items}
use Rattle.indexes.specs.Entries.{is_prepared}
use Rattle.indexes.specs.Questions.{count}
use Rattle.indexes.proofs.flat.index.FlatIndexPositionIndex.nth_prepared.Given as goal

abbrev pub invariant-loop-place : goal.invariant-loop-place
invariant-loop-place l = (l.seen ≡ count is_prepared (take l.place (vec_items l.self.cells))) × (l.seen ≤ l.place) × (l.seen ≤ l.n)

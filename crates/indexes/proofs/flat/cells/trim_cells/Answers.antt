use Rattle.std.proofs.Common.{rules}
use Rattle.indexes.proofs.Chains.{chain_kept}
use Rattle.indexes.proofs.flat.cells.trim_cells.Goals as goal

pub returns-clause-after : goal.returns-clause-after
returns-clause-after c = chain_kept _ (λ f. f.0.now) (λ f x b g y k. record { present = search rules; hangs = search rules; renews = search rules }) _ _ _ c.retain_mut.ensures.filtered

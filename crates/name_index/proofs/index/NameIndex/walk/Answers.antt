use Rattle.std.proofs.Common.{◌≢◌, vec_items, rules}
use Rattle.name_index.proofs.Walking.{ends_free, goes_on}
use Rattle.name_index.proofs.index.NameIndex.walk.Goals as goal

pub returns-in-None : goal.returns-in-None
returns-in-None c =
    let s = c.args.self.now in
    let n = c.index.result.now in
    let other : n.name ≢ c.args.name = search rules in
    record { answer = ends_free (vec_items s.nodes) s.sound c.args.name c.loop-name.node c.loop-name.depth n c.loop-name.invariant c.index.ensures other c.turn.result c.turn.ensures.answer c.in-None.ensures.answer }

pub loop-name-preserved : goal.loop-name-preserved
loop-name-preserved c =
    let s = c.args.self.now in
    let n = c.index.result.now in
    let other : n.name ≢ c.args.name = search rules in
    goes_on (vec_items s.nodes) s.sound c.args.name c.loop-name.node c.loop-name.depth n c.loop-name.invariant c.index.ensures other c.turn.result c.in-Some.next c.turn.ensures.answer c.in-Some.ensures.answer

use Rattle.std.proofs.Common.{◌-◌, ◌/◌, arith}
use Rattle.avl_tree.proofs.Builds.{ready_build, built, same_length}
use Rattle.avl_tree.proofs.build.+build.Goals as goal

pub tie-requires : goal.tie-requires
tie-requires t c =
    let half = c.args.count / 2 in
    let rest = c.args.count - half - 1 in
    let long = same_length c.args.nodes.now c.build-left.new.nodes c.build-left.ensures.same in
    let long2 = same_length c.build-left.new.nodes c.build-right.new.nodes c.build-right.ensures.same in
    ready_build c.args.nodes.now c.build-left.new.nodes c.build-right.new.nodes c.args.from half rest c.args.count c.build-left.result c.build-right.result c.build-left.ensures c.build-right.ensures (omega arith) (omega (arith, long, long2, c.requires.within)) (omega (arith, long, long2, c.requires.small))

pub returns : goal.returns
returns t c =
    let half = c.args.count / 2 in
    let rest = c.args.count - half - 1 in
    let long = same_length c.args.nodes.now c.build-left.new.nodes c.build-left.ensures.same in
    let long2 = same_length c.build-left.new.nodes c.build-right.new.nodes c.build-right.ensures.same in
    built c.args.nodes.now c.build-left.new.nodes c.build-right.new.nodes c.args.from half rest c.args.count c.build-left.result c.build-right.result c.build-left.ensures c.build-right.ensures (omega arith) (omega (arith, long, long2, c.requires.within)) (omega (arith, long, long2, c.requires.small)) c.tie.new.nodes c.tie.result (omega arith) (omega arith) c.tie.ensures

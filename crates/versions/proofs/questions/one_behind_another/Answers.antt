-- An event is behind a later one just where nothing of its version is its alone.
use Rattle.std.proofs.Common.{length, refl}
use Rattle.versions.proofs.Asked.{known_parts, one_found, none_found, found_later}
use Rattle.versions.proofs.questions.one_behind_another.Goals as goal

pub differing-alone-requires-clause-known : goal.differing-alone-requires-clause-known
differing-alone-requires-clause-known g c =
    known_parts (length (g.S.EventStore.events c.args.store.now)) c.loop-rest.rest.now c.in-len1-up.len_at_least c.loop-rest.invariant.known

pub returns-then-alone-eq0 : goal.returns-then-alone-eq0
returns-then-alone-eq0 g c =
    let es = g.S.EventStore.events c.args.store.now in
    let r = c.differing-alone.result in
    let found = one_found es c.loop-rest.rest.now c.loop-rest.out c.differing-alone.new.out r.0 r.1 c.in-len1-up.len_at_least c.differing-alone.ensures.answer c.if-alone-eq0.true in
    record { answer = ((λ e. c.loop-rest.invariant.found found), (λ e. refl)) }

pub loop-rest-preserved : goal.loop-rest-preserved
loop-rest-preserved g c =
    let es = g.S.EventStore.events c.args.store.now in
    let xs = c.loop-rest.rest.now in
    let some = c.in-len1-up.len_at_least in
    let r = c.differing-alone.result in
    let inv = c.loop-rest.invariant in
    record {
      known = (known_parts (length es) xs some inv.known).1;
      left = λ h. none_found es xs c.loop-rest.out c.differing-alone.new.out r.0 r.1 some c.differing-alone.ensures.answer c.if-alone-eq0.false (inv.left h);
      found = λ h. inv.found (found_later es xs some h);
    }

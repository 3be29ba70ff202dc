-- The events of the version, the latest first, have all below n just where the n-th from the end is n - 1.
use Rattle.std.proofs.Common.{◌-◌, get_or, arith}
use Rattle.std.proofs.lemmas.Bool.{eq-eqb, eqb-true, false≢true}
use Rattle.versions.proofs.Reached.{enumerates_same}
use Rattle.versions.proofs.Rows.{all_of, of_all}
use Rattle.versions.proofs.Asked.{only_none}
use Rattle.versions.proofs.questions.contains_all_below.Goals as goal

pub returns-then-n-held : goal.returns-then-n-held
returns-then-n-held g c =
    let d = c.differing-held.ensures.answer in
    let r = c.differing-held.result in
    let new = c.differing-held.new.out in
    let rows = enumerates_same (only_none c.args.heads.now) d.firsts in
    record { answer = ((λ e. absurd (false≢true e)), (λ all. absurd (omega (arith, (of_all r.0 (λ i. get_or new i 0) rows c.args.n all (omega (arith, c.if-n-eq0.false))).0, c.if-n-held.true)))) }

pub returns : goal.returns
returns g c =
    let d = c.differing-held.ensures.answer in
    let r = c.differing-held.result in
    let new = c.differing-held.new.out in
    let n = c.args.n in
    let rows = enumerates_same (only_none c.args.heads.now) d.firsts in
    record {
      answer = (
        (λ e x low. all_of r.0 (λ i. get_or new i 0) rows n (omega (arith, c.if-n-held.false)) (omega arith) (eqb-true (get_or new (r.0 - n) 0) (n - 1) e) x low),
        (λ all. eq-eqb (get_or new (r.0 - n) 0) (n - 1) (of_all r.0 (λ i. get_or new i 0) rows n all (omega (arith, c.if-n-eq0.false))).1),
      );
    }

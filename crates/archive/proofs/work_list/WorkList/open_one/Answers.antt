use Rattle.std.proofs.Common.{rules, ◌<◌, sym, subst, ◌∙◌}
use Rattle.std.proofs.lemmas.List.{get_or_default}
use Rattle.std.proofs.lemmas.Iterator.{YieldsList-from_slice}
use Rattle.std.proofs.lemmas.Iterator.Adapters.{serves_from_places}
use Rattle.archive.proofs.work_list.WorkList.open_one.Goals as goal

pub find-requires-clause-callable : goal.find-requires-clause-callable
find-requires-clause-callable c =
    serves_from_places (YieldsList-from_slice c.args.listed.now cc) (λ x q e. search rules)
    (λ x k l e. let less : x.now < c.args.self.now.room = subst (λ v. v < c.args.self.now.room) (sym (e ∙ get_or_default c.args.listed.now k x.now 0 l)) (c.requires k l) in search rules)

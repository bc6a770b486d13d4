use Rattle.std.proofs.Common.{◌≡◌, Result, Err, sym, subst, rules}
use Rattle.repo_edit.proofs.Names.{Stop, stop_of_find, Plan, SetPlans}
use Rattle.repo_edit.proofs.PlanLemmas.{set_lost}
use Rattle.repo_edit.proofs.people.plan_set_user.Goals as goal

pub returns-in_err-id-clause-answers : goal.returns-in_err-id-clause-answers
returns-in_err-id-clause-answers g c = λ tells.
    let old = g.S.Store.history c.args.disk.now in
    let answer : Result Plan Stop = Err (stop_of_find c.in_err-id.field-0.0) in
    let is : c.from_residual.result ≡ answer = search rules in
    subst (SetPlans c.args.env.now c.args.word.now old) (sym is) (set_lost c.args.env.now c.args.word.now old c.in_err-id.field-0.0 (c.in_err-id.ensures.answers tells))

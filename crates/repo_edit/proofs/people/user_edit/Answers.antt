use Rattle.std.proofs.Common.{◌≡◌, Result, Err, sym, subst, rules}
use Rattle.repo_steps.proofs.Names.{Id, DoingAnswers, edited_user}
use Rattle.repo_edit.proofs.Names.{Stop}
use Rattle.repo_edit.proofs.PlanLemmas.{not_planned}
use Rattle.repo_edit.proofs.people.user_edit.Goals as goal

pub returns-in_err-plan-clause-answers : goal.returns-in_err-plan-clause-answers
returns-in_err-plan-clause-answers g c = λ tells.
    let old = g.S.Store.history c.args.disk.now in
    let new = g.S.Store.history c.plan_edited_user.new.disk in
    let doing = edited_user c.args.env.now c.args.name.now c.args.email.now old in
    let answer : Result Id Stop = Err c.in_err-plan.field-0.0 in
    let is : c.from_residual.result ≡ answer = search rules in
    subst (DoingAnswers doing old new) (sym is)
    (not_planned doing old new c.in_err-plan.field-0.0 (c.plan_edited_user.ensures.unwritten tells) (c.in_err-plan.ensures.answers tells))

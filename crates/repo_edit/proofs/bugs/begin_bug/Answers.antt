use Rattle.std.proofs.Common.{◌≡◌, Result, Err, sym, subst, rules}
use Rattle.repo_steps.proofs.Names.{Id, DoingAnswers}
use Rattle.repo_edit.proofs.Names.{Stop, begun_bug}
use Rattle.repo_edit.proofs.PlanLemmas.{not_planned}
use Rattle.repo_edit.proofs.bugs.begin_bug.Goals as goal

pub returns-in_err-plan-clause-answers : goal.returns-in_err-plan-clause-answers
returns-in_err-plan-clause-answers g c = λ tells.
    let old = g.S.Store.history c.args.disk.now in
    let new = g.S.Store.history c.plan_begun.new.disk in
    let doing = begun_bug c.args.env.now c.args.new.op old in
    let answer : Result Id Stop = Err c.in_err-plan.field-0.0 in
    let is : c.from_residual.result ≡ answer = search rules in
    subst (DoingAnswers doing old new) (sym is)
    (not_planned doing old new c.in_err-plan.field-0.0 (c.plan_begun.ensures.unwritten tells) (c.in_err-plan.ensures.answers tells))

use Rattle.std.proofs.Common.{◌≡◌, Result, Err, sym, subst, rules}
use Rattle.repo_steps.proofs.Names.{Id, EditAnswers}
use Rattle.repo_edit.proofs.Names.{Stop, UserSet}
use Rattle.repo_edit.proofs.PlanLemmas.{set_carried, set_not_planned}
use Rattle.repo_edit.proofs.people.user_set.Goals as goal

pub returns-in_err-plan-clause-answers : goal.returns-in_err-plan-clause-answers
returns-in_err-plan-clause-answers g c = λ tells.
    let env = c.args.env.now in
    let word = c.args.word.now in
    let old = g.S.Store.history c.args.disk.now in
    let new = g.S.Store.history c.plan_set_user.new.disk in
    let answer : Result Id Stop = Err c.in_err-plan.field-0.0 in
    let is : c.from_residual.result ≡ answer = search rules in
    subst (EditAnswers env (UserSet word) old new) (sym is)
    (set_not_planned env word old new c.in_err-plan.field-0.0 (c.plan_set_user.ensures.unwritten tells) (c.in_err-plan.ensures.answers tells))

pub returns-clause-answers : goal.returns-clause-answers
returns-clause-answers g c = λ tells.
    set_carried c.args.env.now c.args.word.now c.in_ok-plan.plan (g.S.Store.history c.args.disk.now) (g.S.Store.history c.plan_set_user.new.disk) (g.S.Store.history c.carry_out.new.disk)
    c.carry_out.result (c.plan_set_user.ensures.unwritten tells) (c.in_ok-plan.ensures.answers tells) (c.carry_out.ensures.answers tells)

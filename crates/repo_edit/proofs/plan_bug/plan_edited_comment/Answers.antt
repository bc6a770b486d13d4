use Rattle.std.proofs.Common.{◌≡◌, Result, Ok, Err, sym, subst, rules, ap}
use Rattle.repo_steps.proofs.Names.{BugOp, History, comment_growth}
use Rattle.repo_edit.proofs.Names.{Stop, Plan, EditPlans, GrownPlans, no_pick}
use Rattle.repo_steps.specs.declared.refusal.Stop.TheVariants as stop
use Rattle.words.specs.declared.edit.Edit.TheVariants as command
use Rattle.repo_edit.proofs.PlanBugLemmas.{comment_plans, longer_barred, longer_full, longer_planned}
use Rattle.repo_edit.proofs.plan_bug.plan_edited_comment.Goals as goal

pub returns-in_err-found-clause-answers : goal.returns-in_err-found-clause-answers
returns-in_err-found-clause-answers g c = λ tells.
    let env = c.args.env.now in
    let message = c.args.message.now in
    let word = c.args.word.now in
    let old = g.S.Store.history c.args.disk.now in
    let answer : Result Plan Stop = Err c.in_err-found.field-0.0 in
    let is : c.from_residual.result ≡ answer = search rules in
    let barred = c.in_err-found.ensures.answers tells in
    subst (EditPlans env (command.OfComment word message) old) (sym is)
    (comment_plans env message word barred.0 old answer (longer_barred env (comment_growth env message word barred.0) old c.in_err-found.field-0.0 barred.1))

pub returns-in_err-new-clause-answers : goal.returns-in_err-new-clause-answers
returns-in_err-new-clause-answers g c = λ tells.
    let env = c.args.env.now in
    let answer : Result Plan Stop = Err stop.Memory in
    let is : c.from_residual-in_err-new.result ≡ answer = search rules in
    subst (EditPlans env (command.OfComment c.args.word.now c.args.message.now) (g.S.Store.history c.args.disk.now)) (sym is) (no_pick env, tt)

pub returns-in_err-clock-clause-answers : goal.returns-in_err-clock-clause-answers
returns-in_err-clock-clause-answers g c = λ tells.
    let env = c.args.env.now in
    let message = c.args.message.now in
    let word = c.args.word.now in
    let old = g.S.Store.history c.args.disk.now in
    let found = c.in_ok-found.found in
    let answer : Result Plan Stop = Err c.in_err-clock.field-0.0 in
    let is : c.from_residual-in_err-clock.result ≡ answer = search rules in
    subst (EditPlans env (command.OfComment word message) old) (sym is)
    (comment_plans env message word found.comment old answer (longer_full env (comment_growth env message word found.comment) old found.bug (c.in_ok-found.ensures.answers tells) c.in_ok-new.new.op
    (ap (λ (op : BugOp). Ok op) (sym c.in_ok-new.ensures)) c.in_err-clock.field-0.0 c.in_err-clock.ensures.room))

pub returns-clause-answers : goal.returns-clause-answers
returns-clause-answers g c = λ tells.
    let env = c.args.env.now in
    let message = c.args.message.now in
    let word = c.args.word.now in
    let old = g.S.Store.history c.args.disk.now in
    let found = c.in_ok-found.found in
    comment_plans env message word found.comment old c.plan_grown.result (longer_planned env (comment_growth env message word found.comment) old found.bug (c.in_ok-found.ensures.answers tells) c.in_ok-new.new.op
    (ap (λ (op : BugOp). Ok op) (sym c.in_ok-new.ensures)) c.in_ok-clock.clock c.in_ok-clock.ensures.room c.plan_grown.result
    (subst (λ (h : History). GrownPlans env found.bug c.in_ok-clock.clock c.in_ok-new.new.op h c.plan_grown.result) (c.growing_comment.ensures.unwritten tells) (c.plan_grown.ensures.answers tells)))

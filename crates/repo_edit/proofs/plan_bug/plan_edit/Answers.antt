use Rattle.std.proofs.Common.{◌≡◌, List, Result, Ok, Err, sym, subst, rules}
use Rattle.repo_steps.proofs.Names.{History, BugOp, edit_growth, snapshot_of}
use Rattle.repo_edit.proofs.Names.{Stop, stop_of_edit, Plan, OpAnswers, EditPlans, GrownPlans}
use Rattle.words.specs.declared.edit.Edit.TheVariants as command
use Rattle.repo_edit.proofs.PlanBugLemmas.{edit_plans, edit_unmade, longer_barred, longer_full, longer_planned}
use Rattle.repo_edit.proofs.plan_bug.plan_edit.Goals as goal

pub returns-in_err-bug-clause-answers : goal.returns-in_err-bug-clause-answers
returns-in_err-bug-clause-answers g c = λ tells.
    let env = c.args.env.now in
    let edit = c.args.edit.now in
    let word = c.args.word.now in
    let old = g.S.Store.history c.args.disk.now in
    let answer : Result Plan Stop = Err c.in_err-bug.field-0.0 in
    let is : c.from_residual.result ≡ answer = search rules in
    subst (EditPlans env (command.OfBug word edit) old) (sym is)
    (edit_plans env edit word old answer (longer_barred env (edit_growth env edit word) old c.in_err-bug.field-0.0 (c.in_err-bug.ensures.answers tells)))

pub returns-in_err-new-clause-answers : goal.returns-in_err-new-clause-answers
returns-in_err-new-clause-answers g c = λ tells.
    let env = c.args.env.now in
    let edit = c.args.edit.now in
    let word = c.args.word.now in
    let old = g.S.Store.history c.args.disk.now in
    let why = c.in_err-new.field-0.0 in
    let answer : Result Plan Stop = Err (stop_of_edit why) in
    let is : c.from_residual-in_err-new.result ≡ answer = search rules in
    subst (EditPlans env (command.OfBug word edit) old) (sym is)
    (edit_unmade env edit word old c.in_ok-bug.bug (c.in_ok-bug.ensures.answers tells) why
    (subst (λ (ops : List BugOp). OpAnswers env.moment edit (snapshot_of ops) (Err why)) c.as_slice.ensures c.in_err-new.ensures))

pub returns-in_err-clock-clause-answers : goal.returns-in_err-clock-clause-answers
returns-in_err-clock-clause-answers g c = λ tells.
    let env = c.args.env.now in
    let edit = c.args.edit.now in
    let word = c.args.word.now in
    let old = g.S.Store.history c.args.disk.now in
    let answer : Result Plan Stop = Err c.in_err-clock.field-0.0 in
    let is : c.from_residual-in_err-clock.result ≡ answer = search rules in
    subst (EditPlans env (command.OfBug word edit) old) (sym is)
    (edit_plans env edit word old answer (longer_full env (edit_growth env edit word) old c.in_ok-bug.bug (c.in_ok-bug.ensures.answers tells) c.in_ok-new.new.op
    (subst (λ (ops : List BugOp). OpAnswers env.moment edit (snapshot_of ops) (Ok c.in_ok-new.new)) c.as_slice.ensures c.in_ok-new.ensures)
    c.in_err-clock.field-0.0 c.in_err-clock.ensures.room))

pub returns-clause-answers : goal.returns-clause-answers
returns-clause-answers g c = λ tells.
    let env = c.args.env.now in
    let edit = c.args.edit.now in
    let word = c.args.word.now in
    let old = g.S.Store.history c.args.disk.now in
    let bug = c.in_ok-bug.bug in
    edit_plans env edit word old c.plan_grown.result (longer_planned env (edit_growth env edit word) old bug (c.in_ok-bug.ensures.answers tells) c.in_ok-new.new.op
    (subst (λ (ops : List BugOp). OpAnswers env.moment edit (snapshot_of ops) (Ok c.in_ok-new.new)) c.as_slice.ensures c.in_ok-new.ensures)
    c.in_ok-clock.clock c.in_ok-clock.ensures.room c.plan_grown.result
    (subst (λ (h : History). GrownPlans env bug c.in_ok-clock.clock c.in_ok-new.new.op h c.plan_grown.result) (c.growing_bug.ensures.unwritten tells) (c.plan_grown.ensures.answers tells)))

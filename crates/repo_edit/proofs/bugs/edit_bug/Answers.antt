use Rattle.std.proofs.Common.{◌≡◌, ℕ, Result, Err, sym, subst, rules}
use Rattle.repo_steps.proofs.Names.{Id, files_of, doing_of}
use Rattle.repo_edit.proofs.Names.{Stop, BugEditAnswers}
use Rattle.words.specs.declared.edit.Edit.TheVariants.{OfBug}
use Rattle.repo_edit.specs.Reads.{ReadsEdit}
use Rattle.repo_edit.proofs.PlanLemmas.{carried, not_planned}
use Rattle.repo_edit.proofs.bugs.edit_bug.Goals as goal

pub returns-in_err-plan-clause-answers : goal.returns-in_err-plan-clause-answers
returns-in_err-plan-clause-answers g c = λ tells.
    let env = c.args.env.now in
    let edit = c.args.edit.now in
    let old = g.S.Store.history c.args.disk.now in
    let new = g.S.Store.history c.plan_edit.new.disk in
    let planned = c.in_err-plan.ensures.answers tells in
    let answer : Result Id Stop = Err c.in_err-plan.field-0.0 in
    let is : c.from_residual.result ≡ answer = search rules in
    subst (BugEditAnswers env edit c.args.bug.now old new) (sym is)
    (planned.0, not_planned (doing_of env (OfBug c.args.bug.now edit) planned.0 old) old new c.in_err-plan.field-0.0 (c.plan_edit.ensures.unwritten tells) planned.1)

pub returns-clause-answers : goal.returns-clause-answers
returns-clause-answers g c = λ tells.
    let old = g.S.Store.history c.args.disk.now in
    let planned = c.in_ok-plan.ensures.answers tells in (
      planned.0,
      carried (doing_of c.args.env.now (OfBug c.args.bug.now c.args.edit.now) planned.0 old) c.in_ok-plan.plan old (g.S.Store.history c.plan_edit.new.disk) (g.S.Store.history c.carry_out.new.disk)
          c.carry_out.result (c.plan_edit.ensures.unwritten tells) planned.1 (c.carry_out.ensures.answers tells),
    )

pub returns-clause-reads : goal.returns-clause-reads
returns-clause-reads g c = λ tells.
    subst (λ (after : ℕ). ReadsEdit (files_of (g.S.Store.history c.args.disk.now)) c.args.env.now.folder c.args.bug.now (g.S.Store.object_reads c.args.disk.now) after)
    (sym c.carry_out.ensures.reads) (c.plan_edit.ensures.reads tells)

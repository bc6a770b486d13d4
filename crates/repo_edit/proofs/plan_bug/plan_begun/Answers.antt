use Rattle.std.proofs.Common.{◌≡◌, Result, Err, sym, subst, rules}
use Rattle.repo_steps.proofs.Names.{History, files_of}
use Rattle.repo_edit.proofs.Names.{Stop, Plans, begun_bug, Plan}
use Rattle.repo_edit.specs.Growing.{Begins}
use Rattle.repo_edit.proofs.PlanBugLemmas.{begun_nobody}
use Rattle.repo_edit.proofs.plan_bug.plan_begun.Goals as goal

pub returns-in_err-root-clause-answers : goal.returns-in_err-root-clause-answers
returns-in_err-root-clause-answers g c = λ tells.
    let old = g.S.Store.history c.args.disk.now in
    let answer : Result Plan Stop = Err c.in_err-root.field-0.0 in
    let is : c.from_residual.result ≡ answer = search rules in
    subst (Plans (begun_bug c.args.env.now c.args.new.op old)) (sym is)
    (begun_nobody c.args.env.now c.args.new.op old c.in_err-root.field-0.0 (c.in_err-root.ensures.answers tells))

pub returns-clause-answers : goal.returns-clause-answers
returns-clause-answers g c = λ tells.
    let same = c.root_of.ensures.unwritten tells in
    subst (λ (h : History). Plans (begun_bug c.args.env.now c.args.new.op h) c.plan_root.result) same
    (c.plan_root.ensures.answers tells
    (subst (λ (h : History). Begins (files_of h) c.args.env.now.folder c.in_ok-root.root) (sym same) (c.in_ok-root.ensures.answers tells)))

use Rattle.std.proofs.Common.{rules, ◌≡◌, Err, inl, sym, subst}
use Rattle.sync_steps.specs.Carrying.{CarryAnswers}
use Rattle.repo_sync.proofs.StepLemmas.{set_ended}
use Rattle.repo_sync.proofs.carry.carry.Goals as goal

pub returns-in_err-cause_of-in-Err-clause-answers : goal.returns-in_err-cause_of-in-Err-clause-answers
returns-in_err-cause_of-in-Err-clause-answers g c = λ tells.
    let history = g.S.Store.history in
    let a = c.args in
    let is : c.from_residual-in_err-cause_of-in-Err.result ≡ Err c.in_err-cause_of-in-Err.field-0.0 = search rules in
    subst (CarryAnswers a.closed a.source.now a.target.now a.to.now a.head.now (history a.disk.now) (history c.copy.new.disk)) (sym is) (inl (c.copy.ensures.wrote.wrote tells))

pub returns-in_err-set_head-in-Ok-clause-answers : goal.returns-in_err-set_head-in-Ok-clause-answers
returns-in_err-set_head-in-Ok-clause-answers g c = λ tells.
    let history = g.S.Store.history in
    let a = c.args in
    let why = c.in_err-set_head-in-Ok.field-0.0 in
    let is : c.from_residual.result ≡ Err why = search rules in
    subst (CarryAnswers a.closed a.source.now a.target.now a.to.now a.head.now (history a.disk.now) (history c.set_head.new.disk)) (sym is)
    (set_ended a.closed a.source.now a.target.now a.to.now a.head.now (history a.disk.now) (history c.copy.new.disk) (history c.set_head.new.disk) why
    (c.copy.ensures.wrote.wrote tells) (c.in-Ok.ensures.answers tells) (c.in-Ok.ensures.copied tells) (c.in_err-set_head-in-Ok.ensures.answers tells))

use Rattle.std.proofs.Common.{rules, ◌≡◌, Err, refl, sym, subst}
use Rattle.sync_steps.specs.Pushing.{OnePushed}
use Rattle.repo_sync.proofs.StepLemmas.{local_ends}
use Rattle.repo_sync.proofs.pushing.push_or_hold.Goals as goal

pub returns-in_err-head-clause-answers : goal.returns-in_err-head-clause-answers
returns-in_err-head-clause-answers g c = λ tells alike.
    let history = g.S.Store.history in
    let a = c.args in
    let why = c.in_err-head.field-0.0 in
    let is : c.from_residual.result ≡ Err why = search rules in
    subst (OnePushed a.pair.now.own a.pair.now.peer a.there.now.side a.held a.entity.now (history a.disk.now) (history a.disk.now)) (sym is)
    (local_ends a.pair.now.own a.pair.now.peer a.there.now.side a.held a.entity.now (history a.disk.now) (history a.disk.now) why c.if-held.false c.in_err-head.ensures refl)

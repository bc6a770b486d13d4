use Rattle.std.proofs.Common.{rules, ◌≡◌, ◌∙◌, Err, sym, subst}
use Rattle.repo_merge.specs.Turning.{OneBug}
use Rattle.repo_merge.proofs.BugLemmas.{follow_stops}
use Rattle.repo_merge.proofs.bugs.follow.Goals as goal

pub returns-in_err-give_head-clause-answers : goal.returns-in_err-give_head-clause-answers
returns-in_err-give_head-clause-answers g c = λ tracked entity tells has seen planned.
    let history = g.S.Store.history in
    let a = c.args in
    let old = history a.disk.now in
    let new = history c.give_head.new.disk in
    let why = c.in_err-give_head.field-0.0 in
    let is : c.from_residual.result ≡ Err why = search rules in
    subst (OneBug a.folder.now a.maker.now tracked entity old new) (sym is)
    (follow_stops a.folder.now a.maker.now entity a.heads.now old new has a.plan.now a.seen seen planned c.in-Some.head (sym c.in-Some.is ∙ c.new_head.ensures) tracked why
    (c.in_err-give_head.ensures.answers tells seen))

use Rattle.std.proofs.Common.{◌≡◌, ◌∙◌, Result, Err, sym, subst, rules}
use Rattle.repo_steps.proofs.Names.{new_user}
use Rattle.repo_edit.proofs.Names.{Stop, stop_of_put, stop_of_read, Plans, Plan}
use Rattle.repo_edit.proofs.PlanLemmas.{new_exists, new_planned, new_refused, new_taken, user_damaged}
use Rattle.repo_edit.proofs.people.plan_new_user.Goals as goal

pub returns-in_err-found-clause-answers : goal.returns-in_err-found-clause-answers
returns-in_err-found-clause-answers g c = λ tells.
    let old = g.S.Store.history c.args.disk.now in
    let answer : Result Plan Stop = Err (stop_of_read c.in_err-found.field-0.0) in
    let is : c.from_residual.result ≡ answer = search rules in
    subst (Plans (new_user c.args.env.now c.args.name.now c.args.email.now old)) (sym is)
    (user_damaged c.args.env.now c.args.name.now c.args.email.now old
    c.in_err-found.field-0.0 (c.in_err-found.ensures.answers tells))

pub returns-in_err-version-clause-answers : goal.returns-in_err-version-clause-answers
returns-in_err-version-clause-answers g c = λ tells.
    let old = g.S.Store.history c.args.disk.now in
    let answer : Result Plan Stop = Err (stop_of_put c.in_err-version.field-0.0) in
    let is : c.from_residual-in_err-version.result ≡ answer = search rules in
    subst (Plans (new_user c.args.env.now c.args.name.now c.args.email.now old)) (sym is)
    (new_refused c.args.env.now c.args.name.now c.args.email.now old
    c.in_ok-found.found (c.in_ok-found.ensures.answers tells) c.in_err-version.field-0.0
    c.in_err-version.ensures)

pub returns-then-branch-clause-answers : goal.returns-then-branch-clause-answers
returns-then-branch-clause-answers g c = λ tells.
    let old = g.S.Store.history c.args.disk.now in
    new_exists c.args.env.now c.args.name.now c.args.email.now old
    c.in_ok-found.found (c.in_ok-found.ensures.answers tells) c.in_ok-version.version
    c.in_ok-version.ensures
    (g.S.Store.history c.user.new.disk) (c.user.ensures.unwritten tells) (sym (c.in_ok-stands.ensures.answers tells) ∙ c.if-branch.true)

pub returns-in_err-added-clause-answers : goal.returns-in_err-added-clause-answers
returns-in_err-added-clause-answers g c = λ tells.
    let old = g.S.Store.history c.args.disk.now in
    let answer : Result Plan Stop = Err (stop_of_put c.in_err-added.field-0.0) in
    let is : c.from_residual-in_err-added.result ≡ answer = search rules in
    subst (Plans (new_user c.args.env.now c.args.name.now c.args.email.now old)) (sym is)
    (new_taken c.args.env.now c.args.name.now c.args.email.now old
    c.in_ok-found.found (c.in_ok-found.ensures.answers tells) c.in_ok-version.version
    c.in_ok-version.ensures
    (g.S.Store.history c.user.new.disk) (c.user.ensures.unwritten tells) (sym (c.in_ok-stands.ensures.answers tells) ∙ c.if-branch.false)
    (g.S.Store.history c.stands.new.disk) (c.stands.ensures.unwritten tells ∙ c.user.ensures.unwritten tells) c.in_err-added.field-0.0 (c.in_err-added.ensures.answers tells))

pub returns-clause-answers : goal.returns-clause-answers
returns-clause-answers g c = λ tells.
    let old = g.S.Store.history c.args.disk.now in
    new_planned c.args.env.now c.args.name.now c.args.email.now old
    c.in_ok-found.found (c.in_ok-found.ensures.answers tells) c.in_ok-version.version
    c.in_ok-version.ensures
    (g.S.Store.history c.user.new.disk) (c.user.ensures.unwritten tells) (sym (c.in_ok-stands.ensures.answers tells) ∙ c.if-branch.false)
    (g.S.Store.history c.stands.new.disk) (c.stands.ensures.unwritten tells ∙ c.user.ensures.unwritten tells) c.in_ok-added.added c.from_vec.result
    (c.in_ok-added.ensures.answers tells) (c.from_vec.ensures ∙ c.in_ok-writes.ensures)

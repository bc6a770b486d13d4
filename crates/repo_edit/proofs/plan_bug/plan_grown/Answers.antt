use Rattle.std.proofs.Common.{◌≡◌, ◌∙◌, ◌++◌, ℕ, Result, Err, refl, ap, sym, subst, rules}
use Rattle.std.specs.List.{list_any}
use Rattle.repo_steps.proofs.Names.{bug_kind, op_id, see_writes}
use Rattle.repo_state.specs.declared.clocks.ClockFile.TheVariants as file
use Rattle.repo_edit.proofs.Names.{Stop, stop_of_put, Plan, GrownPlans, has_id}
use Rattle.repo_edit.proofs.PlanBugLemmas.{grown_planned, grown_repeated, grown_taken}
use Rattle.repo_edit.proofs.plan_bug.plan_grown.Goals as goal

pub returns-then-has_operation-clause-answers : goal.returns-then-has_operation-clause-answers
returns-then-has_operation-clause-answers g c = λ tells.
    grown_repeated c.args.env.now c.args.bug.now c.args.edit c.args.new.op (g.S.Store.history c.args.disk.now) c.in_ok-commit.commit c.in_ok-commit.ensures.plan c.only_id-id.result (c.only_id-id.ensures (op_id c.args.new.op) c.in_ok-commit.ensures.id)
    c.has_operation.result (c.has_operation.ensures ∙ ap (list_any (has_id bug_kind c.only_id-id.result)) c.as_slice.ensures) c.if-has_operation.true

pub returns-in_err-writes-clause-answers : goal.returns-in_err-writes-clause-answers
returns-in_err-writes-clause-answers g c = λ tells.
    let old = g.S.Store.history c.args.disk.now in
    let answer : Result Plan Stop = Err (stop_of_put c.in_err-writes.field-0.0) in
    let is : c.from_residual-in_err-writes.result ≡ answer = search rules in
    subst (GrownPlans c.args.env.now c.args.bug.now c.args.edit c.args.new.op old) (sym is)
    (grown_taken c.args.env.now c.args.bug.now c.args.edit c.args.new.op old c.in_ok-commit.commit c.in_ok-commit.ensures.plan c.only_id-id.result (c.only_id-id.ensures (op_id c.args.new.op) c.in_ok-commit.ensures.id)
    c.has_operation.result (c.has_operation.ensures ∙ ap (list_any (has_id bug_kind c.only_id-id.result)) c.as_slice.ensures) c.if-has_operation.false old refl
    c.in_err-writes.field-0.0 (c.in_err-writes.ensures.answers tells))

pub returns-clause-answers : goal.returns-clause-answers
returns-clause-answers g c = λ tells.
    let old = g.S.Store.history c.args.disk.now in
    grown_planned c.args.env.now c.args.bug.now c.args.edit c.args.new.op old c.in_ok-commit.commit c.in_ok-commit.ensures.plan c.only_id-id.result (c.only_id-id.ensures (op_id c.args.new.op) c.in_ok-commit.ensures.id)
    c.has_operation.result (c.has_operation.ensures ∙ ap (list_any (has_id bug_kind c.only_id-id.result)) c.as_slice.ensures) c.if-has_operation.false old refl
    c.in_ok-writes.writes c.from_vec.result (c.in_ok-writes.ensures.answers tells)
    (c.from_vec.ensures ∙ c.in_ok-writes-2.ensures ∙ ap (λ (n : ℕ). c.in_ok-writes.writes.items ++ see_writes c.args.env.now.folder file.BugsEdit c.args.bug.now.seen n) c.number.ensures.value)

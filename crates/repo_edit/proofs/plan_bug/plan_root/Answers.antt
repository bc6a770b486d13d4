use Rattle.std.proofs.Common.{◌≡◌, ◌∙◌, Ok, Result, Err, sym, subst, rules}
use Rattle.repo_edit.proofs.Names.{Stop, stop_of_put, Plans, begun_bug, op_id, Plan}
use Rattle.repo_edit.proofs.PlanBugLemmas.{begun_exists, begun_large, begun_planned, begun_taken, packed_at}
use Rattle.repo_edit.proofs.plan_bug.plan_root.Goals as goal

pub returns-in_err-commit-clause-answers : goal.returns-in_err-commit-clause-answers
returns-in_err-commit-clause-answers g c = λ tells begins.
    let old = g.S.Store.history c.args.disk.now in
    let answer : Result Plan Stop = Err (stop_of_put c.in_err-commit.field-0.0) in
    let is : c.from_residual.result ≡ answer = search rules in
    subst (Plans (begun_bug c.args.env.now c.args.new.op old)) (sym is)
    (begun_large c.args.env.now c.args.new.op old c.args.root.now.author begins.is_user c.args.root.now.create c.args.root.now.edit begins.is_create begins.is_edit
    c.in_err-commit.field-0.0
    (packed_at c.args.env.now c.args.new.op old c.args.root.now.author begins.is_user c.args.root.now.create c.args.root.now.edit begins.is_create begins.is_edit
    (Err c.in_err-commit.field-0.0) c.root_time-edit.result c.root_time.result c.root_time-edit.ensures.value c.root_time.ensures.value c.in_err-commit.ensures.plan))

pub returns-then-branch-clause-answers : goal.returns-then-branch-clause-answers
returns-then-branch-clause-answers g c = λ tells begins.
    let old = g.S.Store.history c.args.disk.now in
    begun_exists c.args.env.now c.args.new.op old c.args.root.now.author begins.is_user c.args.root.now.create c.args.root.now.edit begins.is_create begins.is_edit
    c.in_ok-commit.commit
    (packed_at c.args.env.now c.args.new.op old c.args.root.now.author begins.is_user c.args.root.now.create c.args.root.now.edit begins.is_create begins.is_edit
    (Ok c.in_ok-commit.commit) c.root_time-edit.result c.root_time.result c.root_time-edit.ensures.value c.root_time.ensures.value c.in_ok-commit.ensures.plan)
    c.only_id-id.result (c.only_id-id.ensures (op_id c.args.new.op) c.in_ok-commit.ensures.id) (sym (c.in_ok-stands.ensures.answers tells) ∙ c.if-branch.true)

pub returns-in_err-writes-clause-answers : goal.returns-in_err-writes-clause-answers
returns-in_err-writes-clause-answers g c = λ tells begins.
    let old = g.S.Store.history c.args.disk.now in
    let answer : Result Plan Stop = Err (stop_of_put c.in_err-writes.field-0.0) in
    let is : c.from_residual-in_err-writes.result ≡ answer = search rules in
    subst (Plans (begun_bug c.args.env.now c.args.new.op old)) (sym is)
    (begun_taken c.args.env.now c.args.new.op old c.args.root.now.author begins.is_user c.args.root.now.create c.args.root.now.edit begins.is_create begins.is_edit
    c.in_ok-commit.commit
    (packed_at c.args.env.now c.args.new.op old c.args.root.now.author begins.is_user c.args.root.now.create c.args.root.now.edit begins.is_create begins.is_edit
    (Ok c.in_ok-commit.commit) c.root_time-edit.result c.root_time.result c.root_time-edit.ensures.value c.root_time.ensures.value c.in_ok-commit.ensures.plan)
    c.only_id-id.result (c.only_id-id.ensures (op_id c.args.new.op) c.in_ok-commit.ensures.id) (sym (c.in_ok-stands.ensures.answers tells) ∙ c.if-branch.false)
    (g.S.Store.history c.stands.new.disk) (c.stands.ensures.unwritten tells) c.in_err-writes.field-0.0 (c.in_err-writes.ensures.answers tells))

pub returns-clause-answers : goal.returns-clause-answers
returns-clause-answers g c = λ tells begins.
    let old = g.S.Store.history c.args.disk.now in
    begun_planned c.args.env.now c.args.new.op old c.args.root.now.author begins.is_user c.args.root.now.create c.args.root.now.edit begins.is_create begins.is_edit
    c.in_ok-commit.commit
    (packed_at c.args.env.now c.args.new.op old c.args.root.now.author begins.is_user c.args.root.now.create c.args.root.now.edit begins.is_create begins.is_edit
    (Ok c.in_ok-commit.commit) c.root_time-edit.result c.root_time.result c.root_time-edit.ensures.value c.root_time.ensures.value c.in_ok-commit.ensures.plan)
    c.only_id-id.result (c.only_id-id.ensures (op_id c.args.new.op) c.in_ok-commit.ensures.id) (sym (c.in_ok-stands.ensures.answers tells) ∙ c.if-branch.false)
    (g.S.Store.history c.stands.new.disk) (c.stands.ensures.unwritten tells) c.in_ok-writes.writes c.from_vec.result (c.in_ok-writes.ensures.answers tells)
    (c.from_vec.ensures ∙ c.in_ok-writes-2.ensures)

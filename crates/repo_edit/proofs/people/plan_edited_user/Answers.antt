use Rattle.std.proofs.Common.{◌≡◌, ◌∙◌, ℕ, List, length, Option, Some, Ok, Result, Err, ap, sym, subst, rules, arith}
use Rattle.repo_steps.proofs.Names.{Files, History, files_of, HeadEntry, edited_user}
use Rattle.repo_edit.proofs.Names.{Stop, VersionPlan, FindsUser, stop_of_put, stop_of_read, Plans, Plan}
use Rattle.repo_edit.specs.Reads.{ReadsRoom}
use Rattle.repo_state.proofs.EntryLemmas.{entry_is}
use Rattle.repo_edit.proofs.PlanLemmas.{edit_damaged, edit_full, edit_nobody, edit_planned, edit_refused, edit_taken}
use Rattle.repo_edit.proofs.people.plan_edited_user.Goals as goal

pub returns-in_err-user-clause-answers : goal.returns-in_err-user-clause-answers
returns-in_err-user-clause-answers g c = λ tells.
    let old = g.S.Store.history c.args.disk.now in
    let answer : Result Plan Stop = Err (stop_of_read c.in_err-user.field-0.0) in
    let is : c.from_residual.result ≡ answer = search rules in
    subst (Plans (edited_user c.args.env.now c.args.name.now c.args.email.now old)) (sym is)
    (edit_damaged c.args.env.now c.args.name.now c.args.email.now old
    c.in_err-user.field-0.0 (c.in_err-user.ensures.answers tells))

-- the user that was found
found_user : (folder : List ℕ) (files : Files) (user : HeadEntry) (o : Option HeadEntry) → o ≡ Some user → FindsUser files folder (Ok o) → FindsUser files folder (Ok (Some user))
found_user folder files user o is = subst (λ (x : Option HeadEntry). FindsUser files folder (Ok x)) is

pub returns-in_default-clause-answers : goal.returns-in_default-clause-answers
returns-in_default-clause-answers g c = λ tells.
    let old = g.S.Store.history c.args.disk.now in
    edit_nobody c.args.env.now c.args.name.now c.args.email.now old
    (subst (λ (o : Option HeadEntry). FindsUser (files_of old) c.args.env.now.folder (Ok o)) c.in_default.is (c.in_ok-user.ensures.answers tells))

pub returns-in_err-check_room-clause-answers : goal.returns-in_err-check_room-clause-answers
returns-in_err-check_room-clause-answers g c = λ tells.
    let old = g.S.Store.history c.args.disk.now in
    let answer : Result Plan Stop = Err c.in_err-check_room.field-0.0 in
    let is : c.from_residual-in_err-check_room.result ≡ answer = search rules in
    subst (Plans (edited_user c.args.env.now c.args.name.now c.args.email.now old)) (sym is)
    (edit_full c.args.env.now c.args.name.now c.args.email.now old
    c.in-Some.user (found_user c.args.env.now.folder (files_of old) c.in-Some.user c.in_ok-user.field-0 c.in-Some.is (c.in_ok-user.ensures.answers tells)) (g.S.Store.history c.user_head.new.disk) (c.user_head.ensures.unwritten tells)
    c.in_err-check_room.field-0.0 (c.in_err-check_room.ensures.answers tells))

pub returns-in_err-version-clause-answers : goal.returns-in_err-version-clause-answers
returns-in_err-version-clause-answers g c = λ tells.
    let old = g.S.Store.history c.args.disk.now in
    let answer : Result Plan Stop = Err (stop_of_put c.in_err-version.field-0.0) in
    let is : c.from_residual-in_err-version.result ≡ answer = search rules in
    subst (Plans (edited_user c.args.env.now c.args.name.now c.args.email.now old)) (sym is)
    (edit_refused c.args.env.now c.args.name.now c.args.email.now old
    c.in-Some.user (found_user c.args.env.now.folder (files_of old) c.in-Some.user c.in_ok-user.field-0 c.in-Some.is (c.in_ok-user.ensures.answers tells)) (g.S.Store.history c.user_head.new.disk) (c.user_head.ensures.unwritten tells) (c.in_ok-check_room.ensures.answers tells)
    c.in_err-version.field-0.0
    c.in_err-version.ensures)

pub returns-in_err-writes-clause-answers : goal.returns-in_err-writes-clause-answers
returns-in_err-writes-clause-answers g c = λ tells.
    let old = g.S.Store.history c.args.disk.now in
    let answer : Result Plan Stop = Err (stop_of_put c.in_err-writes.field-0.0) in
    let is : c.from_residual-in_err-writes.result ≡ answer = search rules in
    subst (Plans (edited_user c.args.env.now c.args.name.now c.args.email.now old)) (sym is)
    (edit_taken c.args.env.now c.args.name.now c.args.email.now old
    c.in-Some.user (found_user c.args.env.now.folder (files_of old) c.in-Some.user c.in_ok-user.field-0 c.in-Some.is (c.in_ok-user.ensures.answers tells)) (g.S.Store.history c.user_head.new.disk) (c.user_head.ensures.unwritten tells) (c.in_ok-check_room.ensures.answers tells)
    c.in_ok-version.version
    c.in_ok-version.ensures
    (g.S.Store.history c.check_room.new.disk) (c.check_room.ensures.unwritten tells ∙ c.user_head.ensures.unwritten tells) c.in_err-writes.field-0.0
    (c.in_err-writes.ensures.answers tells))

pub returns-clause-answers : goal.returns-clause-answers
returns-clause-answers g c = λ tells.
    let old = g.S.Store.history c.args.disk.now in
    edit_planned c.args.env.now c.args.name.now c.args.email.now old
    c.in-Some.user (found_user c.args.env.now.folder (files_of old) c.in-Some.user c.in_ok-user.field-0 c.in-Some.is (c.in_ok-user.ensures.answers tells)) (g.S.Store.history c.user_head.new.disk) (c.user_head.ensures.unwritten tells) (c.in_ok-check_room.ensures.answers tells)
    c.in_ok-version.version
    c.in_ok-version.ensures
    (g.S.Store.history c.check_room.new.disk) (c.check_room.ensures.unwritten tells ∙ c.user_head.ensures.unwritten tells) c.in_ok-writes.writes c.from_vec.result
    (c.in_ok-writes.ensures.answers tells) c.from_vec.ensures

pub returns-clause-reads : goal.returns-clause-reads
returns-clause-reads g c = λ tells.
    let files = files_of (g.S.Store.history c.args.disk.now) in
    let folder = c.args.env.now.folder in
    let user = c.in-Some.user in
    let found = found_user folder files user c.in_ok-user.field-0 c.in-Some.is (c.in_ok-user.ensures.answers tells) in
    let room : ReadsRoom files folder user (g.S.Store.object_reads c.user_head.new.disk) (g.S.Store.object_reads c.check_room.new.disk) =
    subst (λ (h : History). ReadsRoom (files_of h) folder user (g.S.Store.object_reads c.user_head.new.disk) (g.S.Store.object_reads c.check_room.new.disk))
    (c.user_head.ensures.unwritten tells) (c.in_ok-check_room.ensures.once tells) in
    let three : length c.in_ok-version.version.objects ≡ 3 = ap (λ (v : VersionPlan). length v.objects) c.in_ok-version.ensures.0 in
    record {
      most = omega (arith, room.room, room.few, three, c.user_head.ensures.reads, c.head_writes.ensures.reads);
      made = λ is. record {
        user = user;
        is_user = entry_is files folder user.id user.name found.0 found.1;
        chain = room.chain;
        few = omega (arith, room.few, three, c.user_head.ensures.reads, c.head_writes.ensures.reads);
      };
    }

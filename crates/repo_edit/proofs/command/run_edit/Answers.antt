use Rattle.std.proofs.Common.{IsOk, List, ℕ, sym, subst}
use Rattle.repo_steps.proofs.Names.{EditAnswers, Edit, files_of}
use Rattle.repo_edit.proofs.Names.{no_pick, BugEditAnswers, UserSet}
use Rattle.words.specs.declared.edit.Edit.TheVariants.{OfComment}
use Rattle.repo_edit.specs.Reads.{ReadsComment, ReadsFor}
use Rattle.repo_edit.proofs.command.run_edit.Goals as goal

pub returns-in-UserNew-clause-answers : goal.returns-in-UserNew-clause-answers
returns-in-UserNew-clause-answers g c = λ tells.
    let old = g.S.Store.history c.args.disk.now in
    subst (λ (command : Edit). EditAnswers c.args.env.now command old (g.S.Store.history c.user_new.new.disk) c.user_new.result) (sym c.in-UserNew.is)
    (no_pick c.args.env.now, c.user_new.ensures.answers tells)

pub returns-in-UserEdit-clause-answers : goal.returns-in-UserEdit-clause-answers
returns-in-UserEdit-clause-answers g c = λ tells.
    let old = g.S.Store.history c.args.disk.now in
    subst (λ (command : Edit). EditAnswers c.args.env.now command old (g.S.Store.history c.user_edit.new.disk) c.user_edit.result) (sym c.in-UserEdit.is)
    (no_pick c.args.env.now, c.user_edit.ensures.answers tells)

pub returns-in-UserSet-clause-answers : goal.returns-in-UserSet-clause-answers
returns-in-UserSet-clause-answers g c = λ tells.
    let old = g.S.Store.history c.args.disk.now in
    let new = g.S.Store.history c.user_set.new.disk in
    subst (λ (command : Edit). EditAnswers c.args.env.now command old new c.user_set.result) (sym c.in-UserSet.is)
    (subst (λ (word : List ℕ). EditAnswers c.args.env.now (UserSet word) old new c.user_set.result) c.as_str.ensures (c.user_set.ensures.answers tells))

pub returns-in-New-clause-answers : goal.returns-in-New-clause-answers
returns-in-New-clause-answers g c = λ tells.
    let old = g.S.Store.history c.args.disk.now in
    subst (λ (command : Edit). EditAnswers c.args.env.now command old (g.S.Store.history c.new_bug.new.disk) c.new_bug.result) (sym c.in-New.is)
    (no_pick c.args.env.now, c.new_bug.ensures.answers tells)

pub returns-in-OfBug-clause-answers : goal.returns-in-OfBug-clause-answers
returns-in-OfBug-clause-answers g c = λ tells.
    let old = g.S.Store.history c.args.disk.now in
    let new = g.S.Store.history c.edit_bug.new.disk in
    subst (λ (command : Edit). EditAnswers c.args.env.now command old new c.edit_bug.result) (sym c.in-OfBug.is)
    (subst (λ (bug : List ℕ). BugEditAnswers c.args.env.now c.in-OfBug.edit bug old new c.edit_bug.result) c.as_str-in-OfBug.ensures (c.edit_bug.ensures.answers tells))

pub returns-in-OfComment-clause-answers : goal.returns-in-OfComment-clause-answers
returns-in-OfComment-clause-answers g c = λ tells.
    let old = g.S.Store.history c.args.disk.now in
    let new = g.S.Store.history c.edit_comment.new.disk in
    subst (λ (command : Edit). EditAnswers c.args.env.now command old new c.edit_comment.result) (sym c.in-OfComment.is)
    (subst (λ (comment : List ℕ). EditAnswers c.args.env.now (OfComment comment c.in-OfComment.message) old new c.edit_comment.result) c.as_str-in-OfComment.ensures (c.edit_comment.ensures.answers tells))

pub returns-in-OfComment-clause-reads : goal.returns-in-OfComment-clause-reads
returns-in-OfComment-clause-reads g c = λ tells.
    let files = files_of (g.S.Store.history c.args.disk.now) in
    let folder = c.args.env.now.folder in
    let first = g.S.Store.object_reads c.args.disk.now in
    let last = g.S.Store.object_reads c.edit_comment.new.disk in
    subst (λ (command : Edit). ReadsFor files folder command (IsOk c.edit_comment.result) first last) (sym c.in-OfComment.is)
    (subst (λ (word : List ℕ). ReadsComment files folder word first last) c.as_str-in-OfComment.ensures (c.edit_comment.ensures.reads tells))

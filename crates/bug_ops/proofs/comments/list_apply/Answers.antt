-- A comment more has no edit yet, and an edit is of the comments so far.
use Rattle.std.proofs.Common.{◌∙◌, sym, ap}
use Rattle.bug_ops.specs.Folds.{comments_in}
use Rattle.bug_ops.specs.Snapshots.{comment_of, list_after}
use Rattle.bug_ops.specs.declared.comments.Edit.{Edit}
use Rattle.bug_ops.proofs.Folds.{on_ok, one_more_comment, past_with_more, edit_kept}
use Rattle.bug_ops.proofs.comments.list_apply.Goals as goal

pub returns-in-Create-clause-list : goal.returns-in-Create-clause-list
returns-in-Create-clause-list c =
    on_ok c.add_comment.result
    (λ is. one_more_comment c.args.edits.now c.args.list.now c.add_comment.new.list (comment_of c.in-Create.common c.in-Create.message) c.requires is
    ∙ sym (ap (list_after (comments_in c.args.edits.now c.args.list.now)) c.in-Create.is))
    c.add_comment.ensures

pub returns-in-Create-clause-edits : goal.returns-in-Create-clause-edits
returns-in-Create-clause-edits c =
    on_ok c.add_comment.result (λ is. past_with_more c.args.edits.now c.args.list.now c.add_comment.new.list (comment_of c.in-Create.common c.in-Create.message) c.requires is) c.add_comment.ensures

pub returns-in-AddComment-clause-list : goal.returns-in-AddComment-clause-list
returns-in-AddComment-clause-list c =
    on_ok c.add_comment-in-AddComment.result
    (λ is. one_more_comment c.args.edits.now c.args.list.now c.add_comment-in-AddComment.new.list (comment_of c.in-AddComment.common c.in-AddComment.message) c.requires is
    ∙ sym (ap (list_after (comments_in c.args.edits.now c.args.list.now)) c.in-AddComment.is))
    c.add_comment-in-AddComment.ensures

pub returns-in-AddComment-clause-edits : goal.returns-in-AddComment-clause-edits
returns-in-AddComment-clause-edits c =
    on_ok c.add_comment-in-AddComment.result
    (λ is. past_with_more c.args.edits.now c.args.list.now c.add_comment-in-AddComment.new.list (comment_of c.in-AddComment.common c.in-AddComment.message) c.requires is)
    c.add_comment-in-AddComment.ensures

pub returns-in-EditComment-clause-list : goal.returns-in-EditComment-clause-list
returns-in-EditComment-clause-list c =
    let edit : Edit = record { message = c.in-EditComment.message; before = c.len.result } in
    on_ok c.keep_edit.result
    (λ put. edit_kept c.args.edits.now c.keep_edit.new.edits c.in-EditComment.target edit put c.args.list.now c.len.ensures
    ∙ sym (ap (list_after (comments_in c.args.edits.now c.args.list.now)) c.in-EditComment.is))
    c.keep_edit.ensures

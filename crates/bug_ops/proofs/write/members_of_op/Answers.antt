-- Each variant is written as its members are.
use Rattle.bug_ops.proofs.WriteLemmas.{as_written}
use Rattle.bug_ops.proofs.write.members_of_op.Goals as goal

pub returns-in-Create : goal.returns-in-Create
returns-in-Create c = as_written _ _ _ c.in-Create.is c.create_members.ensures

pub returns-in-SetTitle : goal.returns-in-SetTitle
returns-in-SetTitle c = as_written _ _ _ c.in-SetTitle.is c.set_title_members.ensures

pub returns-in-AddComment : goal.returns-in-AddComment
returns-in-AddComment c = as_written _ _ _ c.in-AddComment.is c.add_comment_members.ensures

pub returns-in-SetStatus : goal.returns-in-SetStatus
returns-in-SetStatus c = as_written _ _ _ c.in-SetStatus.is c.set_status_members.ensures

pub returns-in-LabelChange : goal.returns-in-LabelChange
returns-in-LabelChange c = as_written _ _ _ c.in-LabelChange.is c.label_change_members.ensures

pub returns-in-EditComment : goal.returns-in-EditComment
returns-in-EditComment c = as_written _ _ _ c.in-EditComment.is c.edit_comment_members.ensures

pub returns-in-SetMetadata : goal.returns-in-SetMetadata
returns-in-SetMetadata c = as_written _ _ _ c.in-SetMetadata.is c.set_metadata_members.ensures

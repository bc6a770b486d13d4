use Rattle.std.proofs.Common.{ap}
use Rattle.bug_ops.proofs.AnswerLemmas.{at_type}
use Rattle.op_kind.specs.Tables.{op_of_type}
use Rattle.bug_ops.specs.BugTable.{bug_table}
use Rattle.bug_ops.proofs.read.typed_in.Goals as goal

pub returns-in-Creation : goal.returns-in-Creation
returns-in-Creation c = at_type _ _ _ _ _ c.in-Creation.is c.create_in.ensures

pub returns-in-Title : goal.returns-in-Title
returns-in-Title c = at_type _ _ _ _ _ c.in-Title.is c.set_title_in.ensures

pub returns-in-Comment : goal.returns-in-Comment
returns-in-Comment c = at_type _ _ _ _ _ c.in-Comment.is c.add_comment_in.ensures

pub returns-in-Status : goal.returns-in-Status
returns-in-Status c = at_type _ _ _ _ _ c.in-Status.is c.set_status_in.ensures

pub returns-in-Labels : goal.returns-in-Labels
returns-in-Labels c = at_type _ _ _ _ _ c.in-Labels.is c.label_change_in.ensures

pub returns-in-Edit : goal.returns-in-Edit
returns-in-Edit c = at_type _ _ _ _ _ c.in-Edit.is c.edit_comment_in.ensures

pub returns-in-Metadata : goal.returns-in-Metadata
returns-in-Metadata c = at_type _ _ _ _ _ c.in-Metadata.is c.set_metadata_in.ensures

pub returns-in-Nothing : goal.returns-in-Nothing
returns-in-Nothing c = ap (op_of_type bug_table _ c.args.common) c.in-Nothing.is

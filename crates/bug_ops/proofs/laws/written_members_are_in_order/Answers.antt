use Rattle.op_kind.proofs.TableLaws.{members_ascend}
use Rattle.bug_ops.specs.BugTable.{bug_table}
use Rattle.bug_ops.specs.Laws.{bug_is_table}
use Rattle.bug_ops.proofs.laws.written_members_are_in_order.Goals as goal

pub returns : goal.returns
returns c = members_ascend bug_table bug_is_table

use Rattle.std.proofs.Common.{arith}
use Rattle.op_kind.specs.OpText.{member_brackets}
use Rattle.op_kind.specs.WritingLaws.{fields_read, text_of_operation}
use Rattle.op_kind.proofs.laws.written_members_read_back.Goals as goal

pub returns-clause-members : goal.returns-clause-members
returns-clause-members c = λ fields each. fields_read member_brackets fields (omega arith) each

pub returns-clause-text : goal.returns-clause-text
returns-clause-text c = text_of_operation

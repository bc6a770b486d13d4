-- Answers of readers, to a member of a bug's operation, to its members and to its text.
use Rattle.std.specs.Prelude.{ℕ, List, Result}
use Rattle.op_kind.specs.Answers.{Answers}
use Rattle.op_kind.specs.FieldLists.{fields_in}
use Rattle.op_kind.specs.Meaning.{version_of}
use Rattle.op_kind.specs.MemberForms.{Form, value_in, MemberFault}
use Rattle.op_kind.specs.Shapes.{ShapeFault}
use Rattle.op_kind.specs.Tables.{op_of_type, op_with, op_of, op_at, TypeFault, MembersFault, OpTextFault}
use Rattle.op_kind.specs.declared.fault.OpFault.{OpFault}
use Rattle.op_kind.specs.declared.members.Field.{Field}
use Rattle.op_kind.specs.declared.place.Common.{Common}
use Rattle.op_kind.specs.declared.place.Place.{Place}
use Rattle.bug_ops.specs.BugTable.{bug_table, shape_of, type_of}
use Rattle.bug_ops.specs.declared.op.BugOp.{BugOp}
use Rattle.bug_ops.specs.declared.op.OpType.{OpType}

-- the value of the member of a form, or its fault
abbrev pub AnswersMember : {A : Type 0} → Form A → List Field → Result A OpFault → Type 0
AnswersMember form fields result = Answers (value_in form (fields_in fields)) (MemberFault form (fields_in fields)) result

-- the operation of a type with a common part, or a fault of the members that the type has
abbrev pub AnswersType : OpType → List Field → Common → Result BugOp OpFault → Type 0
AnswersType t fields c result = Answers (op_of_type bug_table (fields_in fields) c t) (ShapeFault (shape_of t) (fields_in fields)) result

-- the operation with a common part, or a fault of the members that its type has
abbrev pub AnswersCommon : Place → List Field → Common → Result BugOp OpFault → Type 0
AnswersCommon p fields c result = Answers (op_with bug_table (version_of p) (fields_in fields) c) (TypeFault bug_table (fields_in fields) c.kind (type_of c.kind)) result

-- the operation that an object's members are at a place, or a fault of the members
abbrev pub AnswersMembers : Place → List Field → Result BugOp OpFault → Type 0
AnswersMembers p fields result = Answers (op_of bug_table p (fields_in fields)) (MembersFault bug_table (version_of p) (fields_in fields)) result

-- the operation that a text is at a place, or a fault of the text
abbrev pub AnswersText : Place → List ℕ → Result BugOp OpFault → Type 0
AnswersText p text result = Answers (op_at bug_table p text) (OpTextFault bug_table (version_of p) text) result

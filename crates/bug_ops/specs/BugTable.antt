-- The types of operations of bugs, and the members of each.
use Rattle.std.specs.Prelude.{ℕ, ◌==◌, Bool, true, false, not, Option, Some, None, if◌then◌else◌}
use Rattle.op_kind.specs.declared.place.Common.{Common}
use Rattle.op_kind.specs.Shapes.{Shape, Values}
use Rattle.op_kind.specs.Tables.{Table}
use Rattle.op_kind.specs.Shapes.Shape.{nothing, and}
use Rattle.bug_ops.specs.BugForms.{title_form, was_form, message_form, files_form, status_form, added_form, removed_form, target_form, pairs_form}
use Rattle.bug_ops.specs.declared.op.BugOp.{BugOp}
use Rattle.bug_ops.specs.declared.op.BugOp.TheVariants.{Create, SetTitle, AddComment, SetStatus, LabelChange, EditComment, NoOp, SetMetadata}
use Rattle.bug_ops.specs.declared.op.OpType.{OpType}
use Rattle.bug_ops.specs.declared.op.OpType.TheVariants.{Creation, Title, Comment, Status, Labels, Edit, Nothing, Metadata}

-- The types by their numbers.
abbrev pub type_of : ℕ → Option OpType
type_of k =
    if k == 1 then Some Creation else
    if k == 2 then Some Title else
    if k == 3 then Some Comment else
    if k == 4 then Some Status else
    if k == 5 then Some Labels else
    if k == 6 then Some Edit else
    if k == 7 then Some Nothing else
    if k == 8 then Some Metadata else None

-- The members of a type.
abbrev pub shape_of : OpType → Shape
shape_of Creation = and _ title_form (and _ message_form (and _ files_form nothing))
shape_of Title = and _ title_form (and _ was_form nothing)
shape_of Comment = and _ message_form (and _ files_form nothing)
shape_of Status = and _ status_form nothing
shape_of Labels = and _ added_form (and _ removed_form nothing)
shape_of Edit = and _ target_form (and _ message_form (and _ files_form nothing))
shape_of Nothing = nothing
shape_of Metadata = and _ target_form (and _ pairs_form nothing)

-- The operation of a type with a common part, and values for the members.
abbrev pub made : (t : OpType) → Common → Values (shape_of t) → BugOp
made Creation c xs = Create c xs.0 xs.1.0 xs.1.1.0
made Title c xs = SetTitle c xs.0 xs.1.0
made Comment c xs = AddComment c xs.0 xs.1.0
made Status c xs = SetStatus c xs.0
made Labels c xs = LabelChange c xs.0 xs.1.0
made Edit c xs = EditComment c xs.0 xs.1.0 xs.1.1.0
made Nothing c xs = NoOp c
made Metadata c xs = SetMetadata c xs.0 xs.1.0

-- the number of a type
abbrev pub number_of : OpType → ℕ
number_of Creation = 1
number_of Title = 2
number_of Comment = 3
number_of Status = 4
number_of Labels = 5
number_of Edit = 6
number_of Nothing = 7
number_of Metadata = 8

-- the type of an operation
abbrev pub type_of_op : BugOp → OpType
type_of_op (Create c title message files) = Creation
type_of_op (SetTitle c title was) = Title
type_of_op (AddComment c message files) = Comment
type_of_op (SetStatus c status) = Status
type_of_op (LabelChange c added removed) = Labels
type_of_op (EditComment c target message files) = Edit
type_of_op (NoOp c) = Nothing
type_of_op (SetMetadata c target pairs) = Metadata

-- the common part of an operation
abbrev pub common_of_op : BugOp → Common
common_of_op (Create c title message files) = c
common_of_op (SetTitle c title was) = c
common_of_op (AddComment c message files) = c
common_of_op (SetStatus c status) = c
common_of_op (LabelChange c added removed) = c
common_of_op (EditComment c target message files) = c
common_of_op (NoOp c) = c
common_of_op (SetMetadata c target pairs) = c

-- the values for the members of an operation
abbrev pub values_of_op : (o : BugOp) → Values (shape_of (type_of_op o))
values_of_op (Create c title message files) = (title, (message, (files, tt)))
values_of_op (SetTitle c title was) = (title, (was, tt))
values_of_op (AddComment c message files) = (message, (files, tt))
values_of_op (SetStatus c status) = (status, tt)
values_of_op (LabelChange c added removed) = (added, (removed, tt))
values_of_op (EditComment c target message files) = (target, (message, (files, tt)))
values_of_op (NoOp c) = tt
values_of_op (SetMetadata c target pairs) = (target, (pairs, tt))

-- an entity begins with a creation, and every other operation stands behind
abbrev pub opens : OpType → Bool
opens Creation = true
opens _ = false

abbrev pub follows : OpType → Bool
follows t = not (opens t)

-- The table of types, of which each version has all.
abbrev pub bug_table : Table BugOp OpType
bug_table = record {
  type_of = λ version k. type_of k;
  number_of = number_of;
  shape_of = shape_of;
  made = made;
  type_in = type_of_op;
  part_in = common_of_op;
  values_of_op = values_of_op;
  opens = opens;
  follows = follows;
}

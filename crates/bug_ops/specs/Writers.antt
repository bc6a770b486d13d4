-- What writers of a bug's operations make of them.
use Rattle.std.specs.Prelude.{◌≡◌, IfOk, Result, Vec}
use Rattle.std.specs.declared.alloc.Global.{Global}
use Rattle.gb_text.specs.declared.memory.Memory.{Memory}
use Rattle.op_kind.specs.FieldLists.{fields_for}
use Rattle.op_kind.specs.Shapes.{Values}
use Rattle.op_kind.specs.Tables.{members_with}
use Rattle.op_kind.specs.declared.place.Common.{Common}
use Rattle.op_kind.specs.declared.written.Written.{Written}
use Rattle.bug_ops.specs.BugTable.{bug_table, shape_of}
use Rattle.bug_ops.specs.declared.op.OpType.{OpType}

-- the members of a type with a common part and values
abbrev pub WritesType : (t : OpType) → Common → Values (shape_of t) → Result (Vec Written Global) Memory → Type 0
WritesType t c xs result = IfOk result (λ v. fields_for v.items ≡ members_with bug_table t c xs)

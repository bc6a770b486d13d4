-- What is written of a variant is written of the operation that is that variant.
use Rattle.std.proofs.Common.{◌≡◌, subst, sym, Vec, Global}
use Rattle.std.specs.Prelude.{Result, IfOk}
use Rattle.gb_text.specs.declared.memory.Memory.{Memory}
use Rattle.op_kind.specs.FieldLists.{fields_for}
use Rattle.op_kind.specs.Tables.{members_of_op}
use Rattle.op_kind.specs.declared.written.Written.{Written}
use Rattle.bug_ops.specs.BugTable.{bug_table}
use Rattle.bug_ops.specs.declared.op.BugOp.{BugOp}

-- What is answered of an operation is answered of one that is equal.
pub as_written : (r : Result (Vec Written Global) Memory) (o made : BugOp) → o ≡ made → IfOk r (λ v. fields_for v.items ≡ members_of_op bug_table made) → IfOk r (λ v. fields_for v.items ≡ members_of_op bug_table o)
as_written r o made is h = subst (λ (o : BugOp). IfOk r (λ v. fields_for v.items ≡ members_of_op bug_table o)) (sym is) h

-- What the answer of a part says of the whole.
use Rattle.std.proofs.Common.{◌≡◌, ◌∙◌, inr, sym, ap, subst, List, ℕ, Some, option_and_then}
use Rattle.std.specs.Prelude.{Result, Ok, Err}
use Rattle.op_kind.specs.Answers.{Answers}
use Rattle.op_kind.specs.Common.{common_of}
use Rattle.op_kind.specs.Members.{Fields, fields_at}
use Rattle.op_kind.specs.declared.fault.OpFault.{OpFault}
use Rattle.op_kind.specs.declared.place.Common.{Common}
use Rattle.op_kind.specs.declared.place.Place.{Place}
use Rattle.bug_ops.specs.BugTable.{bug_table, type_of, shape_of}
use Rattle.op_kind.proofs.TableLaws.{common_kind}
use Rattle.op_kind.specs.Meaning.{version_of}
use Rattle.op_kind.specs.Tables.{op_of_type, op_with, op_of, op_at, TypeFault, KindFault, MembersFault, FaultOf, OpTextFault}
use Rattle.op_kind.specs.Shapes.{ShapeFault}
use Rattle.bug_ops.specs.declared.op.BugOp.{BugOp}
use Rattle.bug_ops.specs.declared.op.OpType.{OpType}

-- what is answered at a type is answered at the same type
pub at_type : (fs : Fields) (c : Common) (k t : OpType) (r : Result BugOp OpFault) → k ≡ t → Answers (op_of_type bug_table fs c t) (ShapeFault (shape_of t) fs) r → Answers (op_of_type bug_table fs c k) (ShapeFault (shape_of k) fs) r
at_type fs c k t r same h = subst (λ k. Answers (op_of_type bug_table fs c k) (ShapeFault (shape_of k) fs) r) (sym same) h

-- what is answered with the common part is answered of the members
pub with_common : (p : Place) (fs : Fields) (c : Common) (r : Result BugOp OpFault) → common_of p fs ≡ Some c → Answers (op_with bug_table (version_of p) fs c) (TypeFault bug_table fs c.kind (type_of c.kind)) r → Answers (op_of bug_table p fs) (MembersFault bug_table (version_of p) fs) r
with_common p fs c (Ok o) is h = ap (option_and_then (op_with bug_table (version_of p) fs)) is ∙ h
with_common p fs c (Err f) is h = λ other. inr (subst (λ k. KindFault bug_table (version_of p) fs k f) (sym (common_kind p fs c is)) (h other))

-- what is answered of the members is answered of the text
pub of_text : (p : Place) (t : List ℕ) (fs : Fields) (r : Result BugOp OpFault) → fields_at t ≡ Some fs → Answers (op_of bug_table p fs) (MembersFault bug_table (version_of p) fs) r → Answers (op_at bug_table p t) (OpTextFault bug_table (version_of p) t) r
of_text p t fs (Ok o) is h = ap (option_and_then (op_of bug_table p)) is ∙ h
of_text p t fs (Err f) is h = λ other. subst (λ o. FaultOf bug_table (version_of p) o f) (sym is) (h other)

-- The row after all operations is that of what is left, from the row so far.
use Rattle.std.proofs.Common.{◌≡◌, drop}
use Rattle.op_kind.specs.Fold.{row_from}
use Rattle.bug_ops.specs.Kind.{bug_kind}
use Rattle.snapshot.proofs.bug.follow.Given as goal

abbrev pub invariant-loop-op : goal.invariant-loop-op
invariant-loop-op l = row_from bug_kind l.fn.row l.ops ≡ row_from bug_kind l.row (drop l.op-index l.ops)

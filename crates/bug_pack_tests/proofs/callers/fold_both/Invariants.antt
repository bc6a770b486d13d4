use Rattle.std.proofs.Common.{◌≡◌, drop}
use Rattle.op_kind.specs.Fold.{state_from}
use Rattle.bug_ops.specs.Kind.{bug_kind}
use Rattle.bug_ops.specs.Snapshots.{empty_snapshot}
use Rattle.bug_pack_tests.proofs.callers.fold_both.Given as goal

abbrev pub invariant-loop-op : goal.invariant-loop-op
invariant-loop-op l = record {
  bug : state_from bug_kind empty_snapshot l.ops ≡ state_from bug_kind l.fold (drop l.op-index l.ops);
  row : l.row ≡ l.fold.row;
}

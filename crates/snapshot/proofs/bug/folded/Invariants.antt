-- The state after all operations is that of what is left, from the state so far.
use Rattle.std.proofs.Common.{◌≡◌, drop}
use Rattle.op_kind.specs.Fold.{state_from}
use Rattle.bug_ops.specs.Kind.{bug_kind}
use Rattle.snapshot.proofs.bug.folded.Given as goal

abbrev pub invariant-loop-op : goal.invariant-loop-op
invariant-loop-op l = state_from bug_kind bug_kind.initial l.ops ≡ state_from bug_kind l.fold (drop l.op-index l.ops)

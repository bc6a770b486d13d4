use Rattle.std.proofs.Common.{◌≡◌, drop}
use Rattle.std.specs.BTreeSet.{IsOrdered}
use Rattle.bug_ops.specs.Folds.{without_each}
use Rattle.bug_ops.specs.Snapshots.{by_bytes}
use Rattle.bug_ops.proofs.labels.take_off.Given as goal

abbrev pub invariant-loop-label : goal.invariant-loop-label
invariant-loop-label l = record {
  labels : without_each l.fn.labels.keys l.removed ≡ without_each l.labels.keys (drop l.label-index l.removed);
  ascend : IsOrdered by_bytes l.labels;
}

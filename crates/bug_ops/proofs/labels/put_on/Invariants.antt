use Rattle.std.proofs.Common.{◌≡◌, drop}
use Rattle.std.specs.BTreeSet.{IsOrdered}
use Rattle.bug_ops.specs.Folds.{marks_of}
use Rattle.bug_ops.specs.Snapshots.{by_bytes, with_texts}
use Rattle.bug_ops.proofs.labels.put_on.Given as goal

abbrev pub invariant-loop-label : goal.invariant-loop-label
invariant-loop-label l = record {
  labels : with_texts (marks_of l.fn.labels.keys) l.added ≡ with_texts (marks_of l.labels.keys) (drop l.label-index l.added);
  ascend : IsOrdered by_bytes l.labels;
}

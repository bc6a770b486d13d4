-- The named labels so far that are as is sought were put into the set.
use Rattle.std.proofs.Common.{◌≡◌, []}
use Rattle.std.specs.BTreeSet.{IsOrdered}
use Rattle.bug_ops.specs.Folds.{marks_of}
use Rattle.bug_ops.specs.Snapshots.{by_bytes, with_texts}
use Rattle.snapshot.specs.LastMention.{snapshot_of}
use Rattle.bug_edits.proofs.LabelLemmas.{left}
use Rattle.bug_edits.proofs.labels.named_where.Given as goal

abbrev pub invariant-loop-label : goal.invariant-loop-label
invariant-loop-label l = record {
  labels : with_texts [] (left l.on (snapshot_of l.ops).row.labels l.named 0) ≡ with_texts (marks_of l.found.keys) (left l.on (snapshot_of l.ops).row.labels l.named l.label-index);
  ascend : IsOrdered by_bytes l.found;
}

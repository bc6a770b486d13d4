-- What the operations of bugs mean.
use Rattle.op_kind.specs.Meaning.{Meaning}
use Rattle.op_kind.specs.Tables.{kind_by}
use Rattle.bug_ops.specs.BugTable.{bug_table}
use Rattle.bug_ops.specs.Snapshots.{row_after, snapshot_after, empty_snapshot}
use Rattle.bug_ops.specs.declared.op.BugOp.{BugOp}
use Rattle.bug_ops.specs.declared.snapshot.Excerpt.{Excerpt}
use Rattle.bug_ops.specs.declared.snapshot.Snapshot.{Snapshot}

-- What the operations of bugs mean.
abbrev pub bug_kind : Meaning BugOp Snapshot Excerpt
bug_kind = kind_by bug_table empty_snapshot snapshot_after (λ s. s.row) row_after

-- The operation that an edit adds, or why it adds none.
use Rattle.std.specs.Prelude.{◌≡◌, ⊤, Result, Ok, Err}
use Rattle.bug_ops.specs.declared.snapshot.Snapshot.{Snapshot}
use Rattle.bug_edits.specs.EditTable.{edit_op}
use Rattle.bug_edits.specs.declared.edit.BugEdit.{BugEdit}
use Rattle.bug_edits.specs.declared.edit.EditStop.{EditStop}
use Rattle.bug_edits.specs.declared.edit.EditStop.TheVariants as stop
use Rattle.bug_edits.specs.declared.moment.Moment.{Moment}
use Rattle.bug_edits.specs.declared.new_op.NewOp.{NewOp}

-- the answer to an edit of a bug that says this
abbrev pub OpAnswers : Moment → BugEdit → Snapshot → Result NewOp EditStop → Type 0
OpAnswers moment edit bug (Ok new) = edit_op moment edit bug ≡ Ok new.op
OpAnswers moment edit bug (Err stop.Memory) = ⊤
OpAnswers moment edit bug (Err (stop.NoChange why)) = edit_op moment edit bug ≡ Err why

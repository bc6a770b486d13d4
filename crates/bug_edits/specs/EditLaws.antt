-- What holds of the row of each edit.
use Rattle.std.specs.Prelude.{◌≡◌, true, List, [], ◌∷◌, ◌++◌, Some}
use Rattle.std.specs.Str.{IsUtf8}
use Rattle.gb_text.specs.Digits.{IsId}
use Rattle.op_kind.specs.declared.place.Place.{Place}
use Rattle.bug_ops.specs.Kind.{bug_kind}
use Rattle.bug_ops.specs.declared.op.BugOp.{BugOp}
use Rattle.bug_ops.specs.declared.snapshot.Snapshot.{Snapshot}
use Rattle.snapshot.specs.LastMention.{snapshot_of}
use Rattle.bug_edits.specs.EditTable.{EditRow, KeepsAllElse}
use Rattle.bug_edits.specs.NewOps.{IsOfTheMoment}
use Rattle.bug_edits.specs.declared.edit.NoChange.{NoChange}
use Rattle.bug_edits.specs.declared.moment.Moment.{Moment}

-- what an operation may copy of a bug can be written
pub record CanBeCopied (bug : Snapshot) : Type 0 where
  pub title : IsUtf8 bug.row.title
  pub id : IsId bug.row.id

-- a bug with an operation more, at this place
abbrev pub with_op : List BugOp → Place → BugOp → Snapshot
with_op ops place op = snapshot_of (ops ++ bug_kind.placed place op ∷ [])

-- The laws of a row.
pub record KeepsLaws (row : EditRow) : Type 0 where
  -- it adds no operation for a reason exactly when it would change nothing for that reason
  pub bars : (bug : Snapshot) (why : NoChange) → row.ChangesNothing why bug → row.barred bug ≡ Some why
  pub only : (bug : Snapshot) (why : NoChange) → row.barred bug ≡ Some why → row.ChangesNothing why bug
  -- its operation has the time and the seed of the command, may follow others, and satisfies the rules
  pub anew : (moment : Moment) (bug : Snapshot) → IsOfTheMoment moment (row.made moment bug)
  pub follows : (moment : Moment) (bug : Snapshot) → bug_kind.is_following (row.made moment bug) ≡ true
  pub rules : (moment : Moment) (bug : Snapshot) → CanBeCopied bug → bug_kind.KeepsRules (row.made moment bug)
  -- one step further the bug says what the row claims, wherever the operation is placed, and all else as before
  pub says : (moment : Moment) (place : Place) (bug : Snapshot) → row.Says moment place bug (bug_kind.state_after bug (bug_kind.placed place (row.made moment bug)))
  pub keeps : (moment : Moment) (place : Place) (bug : Snapshot) → KeepsAllElse row bug (bug_kind.state_after bug (bug_kind.placed place (row.made moment bug)))

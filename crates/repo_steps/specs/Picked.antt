-- What a command picks from the files by its words.
use Rattle.gb_text.specs.declared.id.Id.{Id}
use Rattle.bug_ops.specs.declared.op.BugOp.{BugOp}
use Rattle.repo_state.specs.declared.side.HeadEntry.{HeadEntry}

-- The operation that an edit adds, the bug to which it adds it, at its head, the comment that it edits, and the person who
-- becomes the user. The checks of a command tell what it picks from all others; what a command has no use for may be any.
pub record Picked : Type 0 where
  pub op : BugOp
  pub bug : HeadEntry
  pub comment : Id
  pub person : Id

-- Where a folder has the entities of a kind, as a value: bugs are the one kind so far.
use Rattle.repo_state.specs.declared.clocks.ClockFile.{ClockFile}
use Rattle.repo_state.specs.declared.clocks.ClockFile.TheVariants as file
use Rattle.remote_name.specs.declared.remote.RemoteName.{RemoteName}
use Rattle.repo_state.specs.declared.side.Side.{Side}
use Rattle.repo_state.specs.declared.side.Side.TheVariants as side

-- the side of its heads, that of the heads that a remote had, and the files of its clocks
pub record EntityPlaces : Type 0 where
  pub heads : Side
  pub tracked : RemoteName → Side
  pub creates : ClockFile
  pub edits : ClockFile

-- those of bugs
abbrev pub bug_places : EntityPlaces
bug_places = record { heads = side.Bugs; tracked = side.RemoteBugs; creates = file.BugsCreate; edits = file.BugsEdit }

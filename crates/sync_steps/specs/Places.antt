-- The sides on which the refs of an entity stand, by its kind.
use Rattle.remote_name.specs.declared.remote.RemoteName.{RemoteName}
use Rattle.repo_state.specs.declared.side.Side.{Side}
use Rattle.repo_state.specs.declared.side.Side.TheVariants as side
use Rattle.sync_steps.specs.declared.line.EntityWord.{EntityWord}
use Rattle.sync_steps.specs.declared.line.EntityWord.TheVariants as word

-- the local side
abbrev pub local_side : EntityWord → Side
local_side word.Identity = side.Identities
local_side word.Bug = side.Bugs

-- the side of what was last seen at a remote
abbrev pub tracking_side : RemoteName → EntityWord → Side
tracking_side remote word.Identity = side.RemoteIdentities remote
tracking_side remote word.Bug = side.RemoteBugs remote

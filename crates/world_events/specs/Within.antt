-- Events of a world with so many folders.
use Rattle.std.specs.Prelude.{ℕ, ◌<◌, ◌≢◌, ⊤}
use Rattle.world_events.specs.declared.act.Act.{Act}
use Rattle.world_events.specs.declared.act.Act.TheVariants.{Pull, Push}
use Rattle.world_events.specs.declared.event.Event.{Event}
use Rattle.world_events.specs.declared.event.Turn.{Turn}

-- another one of the folders
pub record IsPeer (folders folder peer : ℕ) : Type 0 where
  pub below : peer < folders
  pub other : peer ≢ folder

-- the peer of a command, if it has one, is another one of the folders
abbrev pub HasPeerWithin : ℕ → ℕ → Act → Type 0
HasPeerWithin folders folder (Pull peer) = IsPeer folders folder peer
HasPeerWithin folders folder (Push peer) = IsPeer folders folder peer
HasPeerWithin folders folder _ = ⊤

-- a turn of one of the folders, whose peer is another one of them
pub record IsTurnWithin (folders : ℕ) (turn : Turn) : Type 0 where
  pub folder : turn.folder < folders
  pub peer : HasPeerWithin folders turn.folder turn.act

-- the event is in one of the folders, and its peer is another one of them
pub record IsWithin (folders : ℕ) (event : Event) : Type 0 where
  pub folder : event.folder < folders
  pub peer : HasPeerWithin folders event.folder event.act

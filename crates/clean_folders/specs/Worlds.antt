-- Clean worlds.
use Rattle.std.specs.Prelude.{◌≤◌, ℕ, All, List, []}
use Rattle.gb_store.specs.Files.{History}
use Rattle.world.specs.Plays.{ArePlayed, RunsEvent}
use Rattle.world.specs.declared.world.Ended.{Ended}
use Rattle.world_events.specs.Within.{IsWithin}
use Rattle.world_events.specs.declared.event.Event.{Event}
use Rattle.clean_folders.specs.Hashes.{HashesDoNotCollide}
use Rattle.clean_folders.specs.WorldSeeds.{HaveDistinctSeeds}

-- events in so many folders, each stopped anywhere, left this history of an empty store; those that edit bugs have distinct seeds, and no two
-- texts that they hash have one hash
pub record IsCleanWorld (folders : ℕ) (files : History) : Type 0 where
  pub most : folders ≤ 16
  pub events : List Event
  pub within : All (IsWithin folders) events
  pub ends : List Ended
  pub played : ArePlayed events ends [] files
  pub seeds : HaveDistinctSeeds events
  pub no_collision : HashesDoNotCollide folders events ends [] files played

-- an event that ends so takes a clean world to another history
pub record RunsInClean (folders : ℕ) (run : Event × Ended) (old new : History) : Type 0 where
  pub clean : IsCleanWorld folders old
  pub runs : RunsEvent run old new

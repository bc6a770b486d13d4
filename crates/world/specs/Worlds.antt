-- The world that events leave.
use Rattle.std.specs.Prelude.{ℕ, List, [], map}
use Rattle.std.specs.List.{range_with_len}
use Rattle.world.specs.Counts.{IsCounted}
use Rattle.world.specs.Plays.{ArePlayed}
use Rattle.world.specs.declared.world.Ended.{Ended}
use Rattle.world.specs.declared.world.World.{World}
use Rattle.world_events.specs.declared.event.Event.{Event}

-- the world's store is what these events leave of an empty one, and its counts are those of how they ended
pub record IsPlayed (events : List Event) (world : World) : Type 0 where
  pub ends : List Ended
  pub are : ArePlayed events ends [] world.store.history
  pub counts : IsCounted ends world

-- what is told of the first ones of all events: after each how many they are, and of how many
abbrev pub told_of : ℕ → ℕ → List (ℕ × ℕ)
told_of all count = map (λ k. (k, all)) (range_with_len 1 count)

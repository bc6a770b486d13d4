-- How many events ended in which way.
use Rattle.std.specs.Prelude.{◌≡◌, ◌<◌, ◌+◌, ◌^◌, ◌-◌, Bool, true, false, List}
use Rattle.std.specs.List.{count_by}
use Rattle.world.specs.declared.world.Ended.{Ended}
use Rattle.world.specs.declared.world.Ended.TheVariants.{Done, Refused, Skipped}
use Rattle.world.specs.declared.world.World.{World}

-- an event ended in this way
abbrev pub is_done : Ended → Bool
is_done Done = true
is_done _ = false

abbrev pub is_refused : Ended → Bool
is_refused Refused = true
is_refused _ = false

abbrev pub is_skipped : Ended → Bool
is_skipped Skipped = true
is_skipped _ = false

-- the counts of a world are those of events that ended so
pub record IsCounted (ends : List Ended) (world : World) : Type 0 where
  pub done : world.done ≡ count_by is_done ends
  pub refused : world.refused ≡ count_by is_refused ends
  pub skipped : world.skipped ≡ count_by is_skipped ends

-- no count is at its last number
pub record IsUnfilled (world : World) : Type 0 where
  pub done : world.done < 2 ^ 64 - 1
  pub refused : world.refused < 2 ^ 64 - 1
  pub skipped : world.skipped < 2 ^ 64 - 1

-- the counts of a world with one event more
abbrev pub counted : World → Ended → World
counted world Done = record world { done = world.done + 1 }
counted world Refused = record world { refused = world.refused + 1 }
counted world Skipped = record world { skipped = world.skipped + 1 }

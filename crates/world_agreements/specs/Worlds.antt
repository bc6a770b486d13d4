-- Worlds in whose full exchange nothing was refused.
use Rattle.std.specs.Prelude.{◌≡◌, ◌<◌, ◌≤◌, ℕ, ℤ, All, List, []}
use Rattle.gb_store.specs.Files.{Files, History}
use Rattle.full_exchanges.specs.Having.{NameAuthorsAlike}
use Rattle.world.specs.Plays.{ArePlayed}
use Rattle.world.specs.Told.{IsWorld}
use Rattle.world.specs.declared.world.Ended.{Ended}
use Rattle.world.specs.declared.world.Ended.TheVariants.{Done}
use Rattle.world.specs.declared.world.World.{World}
use Rattle.world_events.specs.Within.{IsWithin}
use Rattle.world_events.specs.Words.{folder_word}
use Rattle.world_events.specs.declared.event.Event.{Event}
use Rattle.world_texts.specs.Asked.{IsInBounds}
use Rattle.world_texts.specs.declared.asked.Asked.{Asked}
use Rattle.exchange_runs.specs.Exchanged.{Exchanged}

-- events in so many folders, each stopped anywhere, left the first history of an empty store; then a full exchange left the second,
-- and each of its pulls was done
pub record IsExchanged (folders : ℕ) (mid new : History) : Type 0 where
  pub most : folders ≤ 16
  pub events : List Event
  pub within : All (IsWithin folders) events
  pub ends : List Ended
  pub played : ArePlayed events ends [] mid
  pub now : ℤ
  pub exchanged : Exchanged folders now mid new

-- the world that numbers in their bounds ask for, where each pull of its full exchange was done
pub record IsExchangedFor (asked : Asked) (world : World) : Type 0 where
  pub bounds : IsInBounds asked
  pub made : IsWorld asked world
  pub done : All (λ (ended : Ended). ended ≡ Done) made.pulls

-- each two folders of a world have the same names for the authors of their bugs
abbrev pub AllNameAlike : ℕ → Files → Type 0
AllNameAlike folders files =
    (one two : ℕ) → one < folders → two < folders → NameAuthorsAlike files (folder_word one) files (folder_word two)

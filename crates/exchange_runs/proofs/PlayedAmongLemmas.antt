-- Events of a world are runs that take commits from its folders alone.
use Rattle.std.proofs.Common.{◌≤◌, ℕ, All, List}
use Rattle.gb_store.specs.Files.{History}
use Rattle.words.specs.declared.words.Asked.{Asked}
use Rattle.words.specs.declared.words.Asked.TheVariants as asked
use Rattle.words.specs.declared.words.PeerCommand.{PeerCommand}
use Rattle.words.specs.declared.words.PeerCommand.TheVariants.{Fetch, Pull, Push}
use Rattle.words.specs.Words.{asked_of}
use Rattle.world.proofs.StayLemmas.{IsAskedAmong}
use Rattle.world.proofs.WorldLemmas.{events_keep}
use Rattle.world.specs.Folders.{world_folders}
use Rattle.world.specs.Plays.{ArePlayed}
use Rattle.world.specs.declared.world.Ended.{Ended}
use Rattle.world_events.specs.Within.{IsWithin}
use Rattle.world_events.specs.declared.event.Event.{Event}
use Rattle.exchange_runs.specs.Takes.{RunsAmong, TakesAmong, nothing, one_more}

-- what is asked among folders takes from them
takes_among : (folders : List (List ℕ)) (asks : Asked) → IsAskedAmong folders asks → TakesAmong folders asks
takes_among folders asked.Nothing among = tt
takes_among folders (asked.Refused bad) among = tt
takes_among folders (asked.Request request) among = tt
takes_among folders (asked.Exchange request) among = by request.command
  where
    by : (command : PeerCommand) → TakesAmong folders (asked.Exchange (record { pair = request.pair; command = command }))
    by (Fetch remote) = λ mine. among.1
    by (Pull remote) = λ mine. among.1
    by Push = tt
takes_among folders (asked.Merge request) among = tt
takes_among folders (asked.List request) among = tt

pub events_take : (folders : ℕ) (most : folders ≤ 16) (events : List Event) (ends : List Ended) (old new : History) → All (IsWithin folders) events → ArePlayed events ends old new
    → RunsAmong (world_folders folders) old new
events_take folders most events ends old new within played =
    events_keep folders most (RunsAmong (world_folders folders) old)
    (λ mid next before it among. one_more mid next before it (takes_among (world_folders folders) (asked_of it.words) among)) events ends old new within nothing played.in_turn

-- What holds of clean worlds.
use Rattle.std.specs.Prelude.{◌≡◌, ◌≢◌, ◌⊎◌, ◌≤◌, ◌^◌, ◌∷◌, [], ℕ, ℤ, true, All, Contains, List, Ok}
use Rattle.std.specs.List.{zip}
use Rattle.gb_text.specs.declared.id.Name.{Name}
use Rattle.gb_store.specs.Files.{History, files_of}
use Rattle.gb_store.specs.Turns.{InTurn}
use Rattle.dag_entity.specs.declared.fault.EntityFault.{EntityFault}
use Rattle.remote_name.specs.declared.remote.RemoteName.{RemoteName}
use Rattle.repo_state.specs.Users.{NoUser, user_at}
use Rattle.repo_steps.specs.declared.refusal.Refusal.TheVariants as refusal
use Rattle.sync_steps.specs.Lines.{is_refused}
use Rattle.sync_steps.specs.declared.line.Line.{Line}
use Rattle.merge_steps.specs.Pulling.{PullAnswers}
use Rattle.merge_steps.specs.declared.line.MergeLine.{MergeLine}
use Rattle.merge_steps.specs.declared.line.MergeOutcome.TheVariants as outcome
use Rattle.merge_steps.specs.declared.line.Pulled.{Pulled}
use Rattle.bug_run.specs.Exchanges.{answer_of_pull}
use Rattle.bug_run.specs.Moments.{seconds_of}
use Rattle.bug_run.specs.Printed.{HasLines}
use Rattle.bug_run.specs.declared.status.Refused.TheVariants.{ByCommand}
use Rattle.bug_run.specs.declared.status.Status.TheVariants as status
use Rattle.full_exchanges.specs.Having.{HaveOneTextEach}
use Rattle.full_exchanges.specs.Pulls.{RefusesNoBug}
use Rattle.operation_origins.specs.Limits.{IsLimit}
use Rattle.world_events.specs.Events.{events_of}
use Rattle.world_events.specs.Exchange.{exchange_of}
use Rattle.world_events.specs.Within.{IsWithin}
use Rattle.world_events.specs.Words.{folder_word}
use Rattle.world_events.specs.declared.act.Act.TheVariants as act
use Rattle.world_events.specs.declared.event.Event.{Event}
use Rattle.world_texts.specs.Asked.{IsInBounds}
use Rattle.world_texts.specs.declared.asked.Asked.{Asked}
use Rattle.world.specs.Folders.{world_folders}
use Rattle.world.specs.Plays.{ArePlayed, IsDone}
use Rattle.world.specs.Told.{IsWorld}
use Rattle.world.specs.declared.world.Ended.{Ended}
use Rattle.world.specs.declared.world.World.{World}
use Rattle.clean_folders.specs.Names.{HaveOneNameEach}
use Rattle.clean_folders.specs.Clean.{AreClean, TellsNoLimit}
use Rattle.clean_folders.specs.Hashes.{HashesDoNotCollide}
use Rattle.clean_folders.specs.WorldSeeds.{EditNoBug, HaveDistinctSeeds, SeedTextsDoNotCollide}
use Rattle.clean_folders.specs.Worlds.{IsCleanWorld, RunsInClean}

-- the folders of a clean world are clean
abbrev pub WorldsOfDistinctSeedsAreClean : Type 0
WorldsOfDistinctSeedsAreClean =
    (folders : ℕ) (files : History) → IsCleanWorld folders files
    → AreClean (world_folders folders) files

-- events that edit no bug take a clean world to a clean world
abbrev pub StayCleanAfterEvents : Type 0
StayCleanAfterEvents =
    (folders : ℕ) (events : List Event) (ends : List Ended)
    (old new : History) → IsCleanWorld folders old → All (IsWithin folders) events
    → EditNoBug events → ArePlayed events ends old new → IsCleanWorld folders new

-- a full exchange takes a clean world to a clean world
abbrev pub StayCleanAfterAnExchange : Type 0
StayCleanAfterAnExchange =
    (folders : ℕ) (now : ℤ) (ends : List Ended) (old new : History)
    → IsCleanWorld folders old → ArePlayed (exchange_of folders now) ends old new
    → IsCleanWorld folders new

-- the world is clean before each pull of a full exchange
abbrev pub AreCleanBeforeEachPull : Type 0
AreCleanBeforeEachPull =
    (folders : ℕ) (now : ℤ) (ends : List Ended) (old new : History)
    → IsCleanWorld folders old → ArePlayed (exchange_of folders now) ends old new
    → InTurn (RunsInClean folders) (zip (exchange_of folders now) ends) old new

-- an event that makes a user, packs refs, pulls or pushes edits no bug
abbrev pub OtherEventsEditNoBug : Type 0
OtherEventsEditNoBug =
    (event : Event) (peer : ℕ) → (event.act ≡ act.UserNew)
    ⊎ ((event.act ≡ act.PackRefs) ⊎ ((event.act ≡ act.Pull peer)
    ⊎ (event.act ≡ act.Push peer))) → EditNoBug (event ∷ [])

-- the events that a number makes have distinct seeds, where the texts of their seeds do not collide
abbrev pub GeneratedEventsHaveDistinctSeeds : Type 0
GeneratedEventsHaveDistinctSeeds =
    (number folders count : ℕ) → count ≤ 2 ^ 64 → SeedTextsDoNotCollide number count
    → HaveDistinctSeeds (events_of number folders count)

-- the world that three numbers ask for is clean before its full exchange
abbrev pub AreCleanBeforeTheExchange : Type 0
AreCleanBeforeTheExchange =
    (asked : Asked) (world : World) → IsInBounds asked
    → (made : IsWorld asked world) → SeedTextsDoNotCollide asked.number asked.events
    → HashesDoNotCollide asked.folders (events_of asked.number asked.folders asked.events)
    made.ends [] made.mid made.played → IsCleanWorld asked.folders made.mid

-- and it is clean afterwards
abbrev pub AreCleanAfterTheExchange : Type 0
AreCleanAfterTheExchange =
    (asked : Asked) (world : World) → IsInBounds asked
    → (made : IsWorld asked world) → SeedTextsDoNotCollide asked.number asked.events
    → HashesDoNotCollide asked.folders (events_of asked.number asked.folders asked.events)
    made.ends [] made.mid made.played → IsCleanWorld asked.folders world.store.history

-- a pull in a clean world is refused for no taken name
abbrev pub PullsFindNoNameTaken : Type 0
PullsFindNoNameTaken =
    (folders : ℕ) (event : Event) (peer : ℕ) (ended : Ended)
    (old new : History) (name : Name) → IsCleanWorld folders old → IsWithin folders event
    → event.act ≡ act.Pull peer → (done : IsDone event ended old new)
    → HaveOneNameEach (folder_word event.folder) (seconds_of event.now) old new
    → done.answer ≢ status.Refused (ByCommand (refusal.NameTaken name))

-- a pull in a clean world prints lines, if its folder has a user
abbrev pub PullsOfUsersPrintLines : Type 0
PullsOfUsersPrintLines =
    (folders : ℕ) (event : Event) (peer : ℕ) (ended : Ended)
    (old new : History) → IsCleanWorld folders old → IsWithin folders event
    → event.act ≡ act.Pull peer → (done : IsDone event ended old new)
    → (user_at (files_of old) (folder_word event.folder) ≡ NoUser → ⊥)
    → HaveOneNameEach (folder_word event.folder) (seconds_of event.now) old new
    → HasLines done.answer

-- a pull in a clean world refuses no entity in its fetch, and a bug in its merge by a limit alone
abbrev pub PullsTellLimits : Type 0
PullsTellLimits =
    (folders : ℕ) (event : Event) (peer : ℕ) (ended : Ended)
    (old new : History) → IsCleanWorld folders old → IsWithin folders event
    → event.act ≡ act.Pull peer → (done : IsDone event ended old new)
    → HaveOneTextEach (files_of new) (world_folders folders) → HasLines done.answer
    → (remote : RemoteName) × (remote.text ≡ folder_word peer) × (pulled : Pulled)
    × PullAnswers (folder_word event.folder) (folder_word peer) remote (seconds_of event.now)
    old new (Ok pulled) × (done.text ≡ (answer_of_pull pulled).text)
    × ((line : Line) → Contains pulled.fetched line → is_refused line.outcome ≡ true → ⊥)
    × ((line : MergeLine) (why : EntityFault) → Contains pulled.merged line
    → line.outcome ≡ outcome.InvalidBug why → IsLimit why)

-- so it refuses no bug, if no line of its merge tells a limit
abbrev pub PullsWithoutLimitRefuseNoBug : Type 0
PullsWithoutLimitRefuseNoBug =
    (folders : ℕ) (event : Event) (peer : ℕ) (ended : Ended)
    (old new : History) → IsCleanWorld folders old → IsWithin folders event
    → event.act ≡ act.Pull peer → (done : IsDone event ended old new)
    → HaveOneTextEach (files_of new) (world_folders folders) → HasLines done.answer
    → (remote : RemoteName) × (remote.text ≡ folder_word peer) × (pulled : Pulled)
    × PullAnswers (folder_word event.folder) (folder_word peer) remote (seconds_of event.now)
    old new (Ok pulled) × (done.text ≡ (answer_of_pull pulled).text)
    × (TellsNoLimit pulled → RefusesNoBug pulled)

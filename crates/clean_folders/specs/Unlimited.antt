-- Full exchanges of worlds in which no limit is met.
use Rattle.std.specs.Prelude.{◌≡◌, ◌<◌, ℕ, ℤ, List, length, Ok}
use Rattle.std.specs.List.{zip}
use Rattle.gb_store.specs.Files.{Files, History}
use Rattle.gb_store.specs.Turns.{InTurn}
use Rattle.repo_state.specs.Users.{NoUser, user_at}
use Rattle.merge_steps.specs.Pulling.{PullAnswers}
use Rattle.merge_steps.specs.declared.line.Pulled.{Pulled}
use Rattle.bug_run.specs.Moments.{seconds_of}
use Rattle.full_exchanges.specs.Pulls.{Pull as PullValue}
use Rattle.world.specs.Plays.{RunsEvent}
use Rattle.world.specs.declared.world.Ended.{Ended}
use Rattle.world_events.specs.Exchange.{exchange_of}
use Rattle.world_events.specs.Words.{folder_word}
use Rattle.world_events.specs.declared.act.Act.TheVariants.{Pull}
use Rattle.world_events.specs.declared.event.Event.{Event}
use Rattle.clean_folders.specs.Names.{HaveOneNameEach}
use Rattle.clean_folders.specs.Clean.{TellsNoLimit}

-- each of so many folders of a world has a user
abbrev pub HaveUsers : ℕ → Files → Type 0
HaveUsers folders files = (folder : ℕ) → folder < folders → user_at files (folder_word folder) ≡ NoUser → ⊥

-- an event is this pull
pub record IsPullOf (event : Event) (pull : PullValue) : Type 0 where
  pub peer : ℕ
  pub act : event.act ≡ Pull peer
  pub own : pull.own ≡ folder_word event.folder
  pub its : pull.peer ≡ folder_word peer
  pub named : pull.remote.text ≡ folder_word peer
  pub time : pull.now ≡ seconds_of event.now

-- no two texts that a pull may name have one SHA-1, and no line of its merge tells a limit
pub record MeetsNoLimit (pull : PullValue) (old new : History) : Type 0 where
  pub names : HaveOneNameEach pull.own pull.now old new
  pub lines : (pulled : Pulled) → PullAnswers pull.own pull.peer pull.remote pull.now old new (Ok pulled) → TellsNoLimit pulled

-- an event that ends so takes one history to another, and meets no limit if it is a pull
pub record RunsWithoutLimit (run : Event × Ended) (old new : History) : Type 0 where
  pub runs : RunsEvent run old new
  pub unlimited : (pull : PullValue) → IsPullOf run.0 pull → MeetsNoLimit pull old new

-- the pulls of a full exchange were played, however they ended, and met no limit
pub record IsUnlimited (folders : ℕ) (now : ℤ) (old new : History) : Type 0 where
  pub ends : List Ended
  pub each : length ends ≡ length (exchange_of folders now)
  pub in_turn : InTurn RunsWithoutLimit (zip (exchange_of folders now) ends) old new

-- Events that are run one after another over a store.
use Rattle.std.specs.Prelude.{◌≡◌, ◌+◌, ◌⊎◌, ℕ, ℤ, true, List, [], length, Option, Some, None}
use Rattle.std.specs.List.{zip}
use Rattle.gb_text.specs.Folder.{folder_of}
use Rattle.gb_text.specs.declared.id.Id.{Id}
use Rattle.gb_store.specs.Files.{Files, History, files_of}
use Rattle.gb_store.specs.Moments.{WroteBy, first_writes}
use Rattle.gb_store.specs.Turns.{InTurn}
use Rattle.bug_edits.specs.declared.moment.Moment.{Moment}
use Rattle.bug_run.specs.Headline.{HeadlineHolds, IsFault, OwnIsSound}
use Rattle.bug_run.specs.Moments.{seconds_of}
use Rattle.bug_run.specs.Run.{Call, RunAnswers, RunStaysSound, RunWrites, call_of}
use Rattle.bug_run.specs.declared.status.Refused.{Refused as Why}
use Rattle.bug_run.specs.declared.status.Status.{Status}
use Rattle.bug_run.specs.declared.status.Status.TheVariants as status
use Rattle.repo_state.specs.Sides.{AreIds}
use Rattle.repo_state.specs.declared.side.Side.TheVariants as side
use Rattle.words.specs.Words.{asked_of}
use Rattle.world_events.specs.Words.{folder_word, words_of}
use Rattle.world_events.specs.declared.event.Event.{Event}
use Rattle.world.specs.declared.world.Ended.{Ended}
use Rattle.world.specs.declared.world.Ended.TheVariants.{Done, Refused, Skipped}

-- ---- one run

-- what stays the same in a run of these arguments, over a store and a sink that show what they hold
abbrev pub call_with : List (List ℕ) → Moment → Call
call_with words moment = call_of true true true (asked_of words) moment

-- a run of these arguments takes one history to another, prints this text and ends so; memory did not run out, and nothing failed
pub record IsRun (words : List (List ℕ)) (moment : Moment) (old new : History) (text : List ℕ) (answer : Status) : Type 0 where
  pub answers : RunAnswers (call_with words moment) old new [] text answer
  pub headline : OwnIsSound (asked_of words) (files_of old) → HeadlineHolds (asked_of words) moment old new [] text answer
  pub sound : RunStaysSound (asked_of words) old new
  pub wrote : WroteBy (RunWrites (call_with words moment)) old new
  pub reached : IsFault answer → ⊥

-- the moment of a run at this time and with this seed
pub record IsAt (time : ℤ) (seed : List ℕ) (moment : Moment) : Type 0 where
  pub now : moment.now ≡ seconds_of time
  pub seeded : moment.seed ≡ seed

-- the bugs of a folder, in order of their ids
pub record HasBugs (files : Files) (folder : ℕ) (bugs : List Id) : Type 0 where
  pub text : List ℕ
  pub named : folder_of (folder_word folder) ≡ Some text
  pub are : AreIds files text side.Bugs bugs

-- ---- one event

-- how an event ends whose run ends so
abbrev pub EndsAs : Ended → Status → Type 0
EndsAs Done answer = answer ≡ status.Done
EndsAs Refused answer = (why : Why) × (answer ≡ status.Refused why)
EndsAs Skipped answer = ⊥

-- the same of any arguments, which may give no command
abbrev pub MayEndAs : Ended → Status → Type 0
MayEndAs ended answer = EndsAs ended answer ⊎ ((ended ≡ Refused) × (answer ≡ status.Usage))

-- a run of these arguments takes one history to another, and ends so
pub record EndsBy (words : List (List ℕ)) (moment : Moment) (old new : History) (ended : Ended) : Type 0 where
  pub text : List ℕ
  pub answer : Status
  pub runs : IsRun words moment old new text answer
  pub ends : MayEndAs ended answer

-- the event needs a bug, and its folder has none: nothing is run
pub record IsSkipped (event : Event) (old new : History) : Type 0 where
  pub bugs : List Id
  pub has : HasBugs (files_of old) event.folder bugs
  pub lacks : words_of event bugs ≡ None
  pub unwritten : new ≡ old

-- the event is one run, by its arguments, at its time and with its seed, which is done or refused
pub record IsDone (event : Event) (ended : Ended) (old new : History) : Type 0 where
  pub bugs : List Id
  pub has : HasBugs (files_of old) event.folder bugs
  pub words : List (List ℕ)
  pub are : words_of event bugs ≡ Some words
  pub moment : Moment
  pub at : IsAt event.now event.seed moment
  pub text : List ℕ
  pub answer : Status
  pub runs : IsRun words moment old new text answer
  pub ends : EndsAs ended answer

-- an event that ends so takes one history to another, where nothing stops it
abbrev pub RunsWhole : Event × Ended → History → History → Type 0
RunsWhole run old end = ((run.1 ≡ Skipped) × IsSkipped run.0 old end) ⊎ IsDone run.0 run.1 old end

-- what is left of writes behind a history, where a stop keeps so many of them; all of them without a stop
abbrev pub stopped_at : Option ℕ → History → History → History
stopped_at None old end = end
stopped_at (Some count) old end = first_writes (length old + count) end

-- an event that ends so takes one history to another: after its whole run, the writes behind its stop are gone
pub record RunsEvent (run : Event × Ended) (old new : History) : Type 0 where
  pub end : History
  pub runs : RunsWhole run old end
  pub stopped : new ≡ stopped_at run.0.stop old end

-- ---- all events

-- events that end so, one after another, take one history to another
pub record ArePlayed (events : List Event) (ends : List Ended) (old new : History) : Type 0 where
  pub each : length ends ≡ length events
  pub in_turn : InTurn RunsEvent (zip events ends) old new

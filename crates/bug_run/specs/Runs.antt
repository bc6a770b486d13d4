-- Runs of the program one after another over several folders, each by whatever words and stopped at whatever moment.
use Rattle.std.specs.Prelude.{◌≡◌, ◌⊎◌, ⊤, ℕ, Bool, true, List, Contains}
use Rattle.gb_text.specs.Overlap.{Overlap}
use Rattle.gb_store.specs.Files.{Files, History}
use Rattle.gb_store.specs.Moments.{IsMoment}
use Rattle.bug_edits.specs.declared.moment.Moment.{Moment}
use Rattle.repo_state.specs.Sound.{IsSound}
use Rattle.bug_run.specs.Exchanges.{written_by}
use Rattle.bug_run.specs.Run.{RunAnswers, call_of}
use Rattle.words.specs.Words.{asked_of}
use Rattle.words.specs.declared.words.Asked.{Asked}
use Rattle.words.specs.declared.words.Asked.TheVariants as asked
use Rattle.words.specs.declared.words.PeerCommand.TheVariants.{Push}
use Rattle.bug_run.specs.declared.status.Status.{Status}

-- no two of these folders overlap: those that do are one
abbrev pub AreApart : List (List ℕ) → Type 0
AreApart folders = (one two : List ℕ) → Contains folders one → Contains folders two → Overlap one two → one ≡ two

-- a folder is one of these, or overlaps none of them
abbrev pub IsAmong : List (List ℕ) → List ℕ → Type 0
IsAmong folders place = Contains folders place ⊎ ((folder : List ℕ) → Contains folders folder → Overlap folder place → ⊥)

-- each of these folders is sound
abbrev pub AreAllSound : List (List ℕ) → Files → Type 0
AreAllSound folders files = (folder : List ℕ) → Contains folders folder → IsSound folder files

-- what arguments ask for writes in one of these folders, or in a folder that overlaps none of them; and if a push writes in one of
-- these folders, it is from one of them
abbrev pub StaysAmong : List (List ℕ) → Asked → Type 0
StaysAmong folders asked.Nothing = ⊤
StaysAmong folders (asked.Refused bad) = ⊤
StaysAmong folders (asked.Request request) = IsAmong folders request.folder
StaysAmong folders (asked.Exchange request) =
    IsAmong folders (written_by request.command request.pair)
    × (request.command ≡ Push → Contains folders request.pair.peer → Contains folders request.pair.own)
StaysAmong folders (asked.Merge request) = IsAmong folders request.folder
StaysAmong folders (asked.List request) = IsAmong folders request.folder

-- a run that ended, or was stopped at some moment of it, over a store that tells its files: by any arguments that stay among
-- these folders; at any time, with any seed, whatever was printed and answered
pub record IsRun (folders : List (List ℕ)) (old new : History) : Type 0 where
  pub words : List (List ℕ)
  pub place : StaysAmong folders (asked_of words)
  pub moment : Moment
  pub end : History
  pub sink_tells : Bool
  pub takes_memory : Bool
  pub before : List ℕ
  pub after : List ℕ
  pub status : Status
  pub answers : RunAnswers (call_of true sink_tells takes_memory (asked_of words) moment) old end before after status
  pub stop : IsMoment old end new

-- any number of such runs
pub data Runs (folders : List (List ℕ)) (old : History) : History → Type 0 where
  nothing : Runs folders old old
  one_more : (mid new : History) → Runs folders old mid → IsRun folders mid new → Runs folders old new

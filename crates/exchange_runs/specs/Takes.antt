-- Runs over folders that take commits from each other alone.
use Rattle.std.specs.Prelude.{⊤, ℕ, List, Contains}
use Rattle.gb_text.specs.Digits.{IsId}
use Rattle.gb_text.specs.declared.id.Id.{Id}
use Rattle.gb_store.specs.Files.{Files, History}
use Rattle.bug_run.specs.Runs.{IsRun}
use Rattle.remote_name.specs.declared.remote.RemoteName.{RemoteName}
use Rattle.repo_state.specs.declared.side.Side.TheVariants as side
use Rattle.words.specs.Words.{asked_of}
use Rattle.words.specs.declared.pair.FolderPair.{FolderPair}
use Rattle.words.specs.declared.words.Asked.{Asked}
use Rattle.words.specs.declared.words.Asked.TheVariants as asked
use Rattle.words.specs.declared.words.PeerCommand.{PeerCommand}
use Rattle.words.specs.declared.words.PeerCommand.TheVariants.{Fetch, Pull, Push}
use Rattle.full_exchanges.specs.Having.{Has, OneHas, Piece}

-- a fetch or a pull into one of these folders is from one of them
abbrev pub TakesFrom : List (List ℕ) → PeerCommand → FolderPair → Type 0
TakesFrom folders (Fetch remote) pair = Contains folders pair.own → Contains folders pair.peer
TakesFrom folders (Pull remote) pair = Contains folders pair.own → Contains folders pair.peer
TakesFrom folders Push pair = ⊤

-- if arguments ask for one
abbrev pub TakesAmong : List (List ℕ) → Asked → Type 0
TakesAmong folders asked.Nothing = ⊤
TakesAmong folders (asked.Refused bad) = ⊤
TakesAmong folders (asked.Request request) = ⊤
TakesAmong folders (asked.Exchange request) = TakesFrom folders request.command request.pair
TakesAmong folders (asked.Merge request) = ⊤
TakesAmong folders (asked.List request) = ⊤

-- any number of runs, each stopped anywhere, that take commits into these folders from these folders alone
pub data RunsAmong (folders : List (List ℕ)) (old : History) : History → Type 0 where
  nothing : RunsAmong folders old old
  one_more : (mid new : History) → RunsAmong folders old mid → (run : IsRun folders mid new) → TakesAmong folders (asked_of run.words) → RunsAmong folders old new

-- what one of these folders has last seen of a bug at any remote, one of them has
abbrev pub SeenIsThere : List (List ℕ) → Files → Type 0
SeenIsThere folders files =
    (folder : List ℕ) (remote : RemoteName) (id : Id) (piece : Piece) → Contains folders folder → IsId id
    → Has files folder (side.RemoteBugs remote) id piece → OneHas files folders id piece

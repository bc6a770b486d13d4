-- Pulls that are done and refuse no bug, and what each brings.
use Rattle.std.specs.Prelude.{◌≡◌, ◌⊎◌, ◌<◌, ◌^◌, ℕ, false, List, Contains, Ok}
use Rattle.gb_text.specs.declared.id.Id.{Id}
use Rattle.gb_store.specs.Files.{Files, History}
use Rattle.remote_name.specs.declared.remote.RemoteName.{RemoteName}
use Rattle.repo_state.specs.declared.side.Side.TheVariants as side
use Rattle.sync_steps.specs.Lines.{is_refused}
use Rattle.sync_steps.specs.declared.line.EntityWord.TheVariants as word
use Rattle.sync_steps.specs.declared.line.Line.{Line}
use Rattle.merge_steps.specs.MergeLines.{is_refused as merge_is_refused}
use Rattle.merge_steps.specs.Pulling.{PullAnswers}
use Rattle.merge_steps.specs.declared.line.MergeLine.{MergeLine}
use Rattle.merge_steps.specs.declared.line.Pulled.{Pulled}
use Rattle.full_exchanges.specs.Having.{Has, Piece, TheBug}

-- a folder pulls from a peer, which it knows by the name of a remote, at this time
pub record Pull : Type 0 where
  pub own : List ℕ
  pub peer : List ℕ
  pub remote : RemoteName
  pub now : ℕ

-- no line of a pull refuses a bug
pub record RefusesNoBug (pulled : Pulled) : Type 0 where
  pub fetched : (line : Line) → Contains pulled.fetched line → line.word ≡ word.Bug → is_refused line.outcome ≡ false
  pub merged : (line : MergeLine) → Contains pulled.merged line → line.word ≡ word.Bug → merge_is_refused line.outcome ≡ false

-- a pull was done, at a time of 64 bits, and it refused no bug
pub record WasPulled (pull : Pull) (old new : History) : Type 0 where
  pub in_time : pull.now < 2 ^ 64
  pub pulled : Pulled
  pub answers : PullAnswers pull.own pull.peer pull.remote pull.now old new (Ok pulled)
  pub refuses_none : RefusesNoBug pulled

-- what a pull brings of a bug: what the peer has of it; and where the peer has no such bug, what the folder has last seen of it at the remote
abbrev pub Brings : Files → Pull → Id → Piece → Type 0
Brings files pull id piece =
    Has files pull.peer side.Bugs id piece
    ⊎ ((Has files pull.peer side.Bugs id TheBug → ⊥) × Has files pull.own (side.RemoteBugs pull.remote) id piece)

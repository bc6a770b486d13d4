-- What holds of runs with unlike seeds.
use Rattle.std.specs.Prelude.{◌≡◌, ◌≢◌, ◌++◌, [], ℕ, Contains, IsTrue, List, Ok}
use Rattle.gb_text.specs.declared.id.Name.{Name}
use Rattle.gb_store.specs.Files.{History, files_of}
use Rattle.dag_entity.specs.declared.fault.EntityFault.{EntityFault}
use Rattle.remote_name.specs.declared.remote.RemoteName.{RemoteName}
use Rattle.repo_steps.specs.declared.refusal.Refusal.TheVariants as refusal
use Rattle.merge_steps.specs.Pulling.{PullAnswers}
use Rattle.merge_steps.specs.Turns.{MergeAnswers}
use Rattle.merge_steps.specs.declared.line.MergeLine.{MergeLine}
use Rattle.merge_steps.specs.declared.line.MergeOutcome.TheVariants as outcome
use Rattle.merge_steps.specs.declared.line.Pulled.{Pulled}
use Rattle.words.specs.Words.{asked_of}
use Rattle.words.specs.declared.pair.FolderPair.{FolderPair}
use Rattle.words.specs.declared.words.Asked.TheVariants as asked
use Rattle.words.specs.declared.words.MergeRequest.{MergeRequest}
use Rattle.words.specs.declared.words.PeerCommand.TheVariants as peer
use Rattle.bug_run.specs.Exchanges.{answer_of_merge, answer_of_pull}
use Rattle.bug_run.specs.Printed.{HasLines}
use Rattle.bug_run.specs.Runs.{AreApart, IsRun}
use Rattle.bug_run.specs.declared.status.Refused.TheVariants.{ByCommand}
use Rattle.bug_run.specs.declared.status.Status.TheVariants as status
use Rattle.full_exchanges.specs.Having.{HaveOneTextEach}
use Rattle.exchange_runs.specs.Takes.{RunsAmong}
use Rattle.operation_origins.specs.Once.{AreFresh, StandOnce}
use Rattle.operation_origins.specs.Limits.{IsLimit}
use Rattle.operation_origins.specs.Tracked.{TrackedAuthorsAreKnown}
use Rattle.clean_folders.specs.Names.{HaveOneNameEach}
use Rattle.clean_folders.specs.Seeds.{HaveNoCollision, HaveUnlikeSeeds}

-- each operation is new when it is made
abbrev pub RunsOfUnlikeSeedsAreFresh : Type 0
RunsOfUnlikeSeedsAreFresh =
    (folders : List (List ℕ)) (new : History) → AreApart folders
    → (runs : RunsAmong folders [] new) → HaveOneTextEach (files_of new) folders
    → HaveUnlikeSeeds folders [] new runs → HaveNoCollision folders [] new runs
    → AreFresh folders [] new runs

-- each operation occurs once in the folders
abbrev pub OperationsStandOnce : Type 0
OperationsStandOnce =
    (folders : List (List ℕ)) (new : History) → AreApart folders
    → (runs : RunsAmong folders [] new) → HaveOneTextEach (files_of new) folders
    → HaveUnlikeSeeds folders [] new runs → HaveNoCollision folders [] new runs
    → StandOnce (files_of new) folders

-- a merge refuses a bug by a limit alone, where the authors of the tracked bugs are known
abbrev pub MergesTellLimits : Type 0
MergesTellLimits =
    (folders : List (List ℕ)) (old new : History) (request : MergeRequest)
    → AreApart folders → (runs : RunsAmong folders [] old)
    → HaveUnlikeSeeds folders [] old runs → HaveNoCollision folders [] old runs
    → (run : IsRun folders old new) → HaveOneTextEach (files_of old) folders
    → asked_of run.words ≡ asked.Merge request → Contains folders request.folder
    → IsTrue run.sink_tells → HasLines run.status
    → TrackedAuthorsAreKnown (files_of old) request.folder request.remote
    → (lines : List MergeLine)
    × MergeAnswers request.folder request.remote run.moment.now old run.end (Ok lines)
    × (run.after ≡ run.before ++ (answer_of_merge lines).text)
    × ((line : MergeLine) (why : EntityFault) → Contains lines line
    → line.outcome ≡ outcome.InvalidBug why → IsLimit why)

-- so does the merge of a pull
abbrev pub PullsTellLimits : Type 0
PullsTellLimits =
    (folders : List (List ℕ)) (old new : History) (pair : FolderPair)
    (remote : RemoteName) → AreApart folders → (runs : RunsAmong folders [] old)
    → HaveUnlikeSeeds folders [] old runs → HaveNoCollision folders [] old runs
    → (run : IsRun folders old new) → HaveOneTextEach (files_of run.end) folders
    → asked_of run.words
    ≡ asked.Exchange (record { pair = pair; command = peer.Pull remote })
    → Contains folders pair.own → Contains folders pair.peer → IsTrue run.sink_tells
    → HasLines run.status → (pulled : Pulled)
    × (done : PullAnswers pair.own pair.peer remote run.moment.now old run.end (Ok pulled))
    × (run.after ≡ run.before ++ (answer_of_pull pulled).text)
    × (TrackedAuthorsAreKnown (files_of done.mid) pair.own remote → (line : MergeLine)
    (why : EntityFault) → Contains pulled.merged line
    → line.outcome ≡ outcome.InvalidBug why → IsLimit why)

-- a merge is refused for no taken name
abbrev pub MergesFindNoNameTaken : Type 0
MergesFindNoNameTaken =
    (folders : List (List ℕ)) (old new : History) (request : MergeRequest)
    (name : Name) → AreApart folders → RunsAmong folders [] old
    → (run : IsRun folders old new) → asked_of run.words ≡ asked.Merge request
    → Contains folders request.folder
    → HaveOneNameEach request.folder run.moment.now old run.end
    → run.status ≢ status.Refused (ByCommand (refusal.NameTaken name))

-- nor is a pull
abbrev pub PullsFindNoNameTaken : Type 0
PullsFindNoNameTaken =
    (folders : List (List ℕ)) (old new : History) (pair : FolderPair)
    (remote : RemoteName) (name : Name) → AreApart folders → RunsAmong folders [] old
    → (run : IsRun folders old new) → asked_of run.words
    ≡ asked.Exchange (record { pair = pair; command = peer.Pull remote })
    → Contains folders pair.own → HaveOneNameEach pair.own run.moment.now old run.end
    → run.status ≢ status.Refused (ByCommand (refusal.NameTaken name))

-- What holds of clean folders.
use Rattle.std.specs.Prelude.{◌≡◌, ◌++◌, [], ℕ, true, Contains, IsTrue, List, Ok}
use Rattle.gb_text.specs.declared.id.Name.{Name}
use Rattle.gb_store.specs.Files.{History, files_of}
use Rattle.dag_entity.specs.declared.fault.EntityFault.{EntityFault}
use Rattle.remote_name.specs.declared.remote.RemoteName.{RemoteName}
use Rattle.sync_steps.specs.Fetching.{FetchAnswers}
use Rattle.sync_steps.specs.Lines.{is_refused, lines_text_of}
use Rattle.sync_steps.specs.Pushing.{PushAnswers}
use Rattle.sync_steps.specs.declared.line.Line.{Line}
use Rattle.sync_steps.specs.declared.line.Outcome.TheVariants as copy
use Rattle.merge_steps.specs.Pulling.{PullAnswers}
use Rattle.merge_steps.specs.Turns.{MergeAnswers}
use Rattle.merge_steps.specs.declared.line.MergeLine.{MergeLine}
use Rattle.merge_steps.specs.declared.line.MergeOutcome.TheVariants as outcome
use Rattle.merge_steps.specs.declared.line.Pulled.{Pulled}
use Rattle.words.specs.Words.{asked_of}
use Rattle.words.specs.declared.pair.FolderPair.{FolderPair}
use Rattle.words.specs.declared.words.Asked.TheVariants as asked
use Rattle.words.specs.declared.words.MergeRequest.{MergeRequest}
use Rattle.words.specs.declared.words.PeerCommand.TheVariants as peer
use Rattle.bug_run.specs.Exchanges.{answer_of_merge, answer_of_pull}
use Rattle.bug_run.specs.Printed.{HasLines}
use Rattle.bug_run.specs.Runs.{AreApart, IsRun}
use Rattle.bug_run.specs.declared.status.Status.TheVariants as status
use Rattle.full_exchanges.specs.Having.{HaveOneTextEach}
use Rattle.full_exchanges.specs.Pulls.{RefusesNoBug}
use Rattle.exchange_runs.specs.Takes.{RunsAmong}
use Rattle.operation_origins.specs.Limits.{IsLimit}
use Rattle.clean_folders.specs.Clean.{AreClean, TellsNoLimit}

-- a merge in a clean folder refuses a bug by a limit alone
abbrev pub CleanMergesTellLimits : Type 0
CleanMergesTellLimits =
    (folders : List (List ℕ)) (old new : History) (request : MergeRequest)
    → AreClean folders old → (run : IsRun folders old new)
    → HaveOneTextEach (files_of old) folders
    → asked_of run.words ≡ asked.Merge request → Contains folders request.folder
    → IsTrue run.sink_tells → HasLines run.status → (lines : List MergeLine)
    × MergeAnswers request.folder request.remote run.moment.now old run.end (Ok lines)
    × (run.after ≡ run.before ++ (answer_of_merge lines).text)
    × ((line : MergeLine) (why : EntityFault) → Contains lines line
    → line.outcome ≡ outcome.InvalidBug why → IsLimit why)

-- so does the merge of a pull between clean folders
abbrev pub CleanPullsTellLimits : Type 0
CleanPullsTellLimits =
    (folders : List (List ℕ)) (old new : History) (pair : FolderPair)
    (remote : RemoteName) → AreClean folders old → (run : IsRun folders old new)
    → HaveOneTextEach (files_of run.end) folders → asked_of run.words
    ≡ asked.Exchange (record { pair = pair; command = peer.Pull remote })
    → Contains folders pair.own → Contains folders pair.peer
    → IsTrue run.sink_tells → HasLines run.status → (pulled : Pulled)
    × PullAnswers pair.own pair.peer remote run.moment.now old run.end (Ok pulled)
    × (run.after ≡ run.before ++ (answer_of_pull pulled).text)
    × ((line : MergeLine) (why : EntityFault) → Contains pulled.merged line
    → line.outcome ≡ outcome.InvalidBug why → IsLimit why)

-- a fetch between such folders refuses no entity
abbrev pub CleanFetchesRefuseNothing : Type 0
CleanFetchesRefuseNothing =
    (folders : List (List ℕ)) (old new : History) (pair : FolderPair)
    (remote : RemoteName) → AreApart folders → RunsAmong folders [] old
    → (run : IsRun folders old new) → HaveOneTextEach (files_of run.end) folders
    → asked_of run.words
    ≡ asked.Exchange (record { pair = pair; command = peer.Fetch remote })
    → Contains folders pair.own → Contains folders pair.peer
    → IsTrue run.sink_tells → HasLines run.status → (lines : List Line)
    × FetchAnswers pair.own pair.peer remote old run.end (Ok lines)
    × (run.after ≡ run.before ++ lines_text_of lines)
    × (run.status ≡ status.Done)
    × ((line : Line) → Contains lines line → is_refused line.outcome ≡ true → ⊥)

-- the fetch of a pull between them refuses none
abbrev pub CleanPullsRefuseNoCopy : Type 0
CleanPullsRefuseNoCopy =
    (folders : List (List ℕ)) (old new : History) (pair : FolderPair)
    (remote : RemoteName) → AreApart folders → RunsAmong folders [] old
    → (run : IsRun folders old new) → HaveOneTextEach (files_of run.end) folders
    → asked_of run.words
    ≡ asked.Exchange (record { pair = pair; command = peer.Pull remote })
    → Contains folders pair.own → Contains folders pair.peer
    → IsTrue run.sink_tells → HasLines run.status → (pulled : Pulled)
    × PullAnswers pair.own pair.peer remote run.moment.now old run.end (Ok pulled)
    × (run.after ≡ run.before ++ (answer_of_pull pulled).text)
    × ((line : Line) → Contains pulled.fetched line → is_refused line.outcome ≡ true → ⊥)

-- a push between them refuses one only where the head of the peer is not below the local one
abbrev pub CleanPushesRefuseOtherHeads : Type 0
CleanPushesRefuseOtherHeads =
    (folders : List (List ℕ)) (old new : History) (pair : FolderPair)
    → AreApart folders → RunsAmong folders [] old → (run : IsRun folders old new)
    → HaveOneTextEach (files_of run.end) folders → asked_of run.words
    ≡ asked.Exchange (record { pair = pair; command = peer.Push })
    → Contains folders pair.own → Contains folders pair.peer
    → IsTrue run.sink_tells → HasLines run.status → (lines : List Line)
    × PushAnswers pair.own pair.peer old run.end (Ok lines)
    × (run.after ≡ run.before ++ lines_text_of lines)
    × ((line : Line) → Contains lines line → is_refused line.outcome ≡ true
    → (other : Name) × (line.outcome ≡ copy.NotForward other))

-- a pull between clean folders refuses no bug, if no line of its merge tells a limit
abbrev pub CleanPullsRefuseNoBug : Type 0
CleanPullsRefuseNoBug =
    (folders : List (List ℕ)) (old new : History) (pair : FolderPair)
    (remote : RemoteName) → AreClean folders old → (run : IsRun folders old new)
    → HaveOneTextEach (files_of run.end) folders → asked_of run.words
    ≡ asked.Exchange (record { pair = pair; command = peer.Pull remote })
    → Contains folders pair.own → Contains folders pair.peer
    → IsTrue run.sink_tells → HasLines run.status → (pulled : Pulled)
    × PullAnswers pair.own pair.peer remote run.moment.now old run.end (Ok pulled)
    × (run.after ≡ run.before ++ (answer_of_pull pulled).text)
    × (TellsNoLimit pulled → RefusesNoBug pulled)

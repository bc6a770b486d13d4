-- What holds of where identities are made and edited.
use Rattle.std.specs.Prelude.{◌≡◌, ◌++◌, [], ℕ, false, Contains, IsTrue, List, Ok}
use Rattle.gb_text.specs.Digits.{IsId}
use Rattle.gb_text.specs.declared.id.Id.{Id}
use Rattle.gb_text.specs.declared.id.Name.{Name}
use Rattle.gb_store.specs.Files.{History, files_of}
use Rattle.remote_name.specs.declared.remote.RemoteName.{RemoteName}
use Rattle.sync_steps.specs.declared.line.EntityWord.TheVariants as word
use Rattle.merge_steps.specs.MergeLines.{is_refused}
use Rattle.merge_steps.specs.Pulling.{PullAnswers}
use Rattle.merge_steps.specs.Turns.{MergeAnswers}
use Rattle.merge_steps.specs.declared.line.MergeLine.{MergeLine}
use Rattle.merge_steps.specs.declared.line.Pulled.{Pulled}
use Rattle.words.specs.Words.{asked_of}
use Rattle.words.specs.declared.pair.FolderPair.{FolderPair}
use Rattle.words.specs.declared.words.Asked.TheVariants as asked
use Rattle.words.specs.declared.words.MergeRequest.{MergeRequest}
use Rattle.words.specs.declared.words.PeerCommand.TheVariants as peer
use Rattle.bug_run.specs.Exchanges.{answer_of_merge, answer_of_pull}
use Rattle.bug_run.specs.Printed.{HasLines}
use Rattle.bug_run.specs.Runs.{AreApart, IsRun}
use Rattle.full_exchanges.specs.Having.{HaveOneTextEach}
use Rattle.exchange_runs.specs.Takes.{RunsAmong}
use Rattle.identity_runs.specs.Heads.{IsHome, IsThere, NoneDiverge, NoneDivergeInOne}
use Rattle.identity_runs.specs.Homes.{AreEditedAtHome, AreMadeOnce, AreSetAtHome, IsMadeIn}
use Rattle.identity_runs.specs.Seeds.{MakePeopleOfUnlikeSeeds, MakePeopleWithoutCollision}

-- the folder where an identity was made is its home
abbrev pub IdentitiesHaveAHome : Type 0
IdentitiesHaveAHome =
    (folders : List (List ℕ)) (new : History) (id : Id) (head : Name) → AreApart folders
    → (runs : RunsAmong folders [] new) → AreMadeOnce folders [] new runs
    → AreEditedAtHome folders [] new runs → IsId id → IsThere (files_of new) folders id head
    → (home : List ℕ) × IsMadeIn folders [] new runs id home
    × IsHome (files_of new) folders id home

-- of two heads of an identity one is at or below the other, in the objects of its home
abbrev pub HeadsDivergeInNoHome : Type 0
HeadsDivergeInNoHome =
    (folders : List (List ℕ)) (new : History) → AreApart folders
    → (runs : RunsAmong folders [] new) → AreMadeOnce folders [] new runs
    → AreEditedAtHome folders [] new runs → NoneDiverge (files_of new) folders

-- and in those of each folder that has both
abbrev pub HeadsDivergeInNoFolder : Type 0
HeadsDivergeInNoFolder =
    (folders : List (List ℕ)) (new : History) → AreApart folders
    → (runs : RunsAmong folders [] new) → AreMadeOnce folders [] new runs
    → AreEditedAtHome folders [] new runs → HaveOneTextEach (files_of new) folders
    → NoneDivergeInOne (files_of new) folders

-- no line of a merge refuses an identity
abbrev pub MergesRefuseNoIdentity : Type 0
MergesRefuseNoIdentity =
    (folders : List (List ℕ)) (old new : History) (request : MergeRequest)
    → AreApart folders → (runs : RunsAmong folders [] old) → AreMadeOnce folders [] old runs
    → AreEditedAtHome folders [] old runs → (run : IsRun folders old new)
    → HaveOneTextEach (files_of run.end) folders
    → asked_of run.words ≡ asked.Merge request → Contains folders request.folder
    → IsTrue run.sink_tells → HasLines run.status → (lines : List MergeLine)
    × MergeAnswers request.folder request.remote run.moment.now old run.end (Ok lines)
    × (run.after ≡ run.before ++ (answer_of_merge lines).text)
    × ((line : MergeLine) → Contains lines line → line.word ≡ word.Identity
    → is_refused line.outcome ≡ false)

-- nor does a line of a pull
abbrev pub PullsRefuseNoIdentity : Type 0
PullsRefuseNoIdentity =
    (folders : List (List ℕ)) (old new : History) (pair : FolderPair)
    (remote : RemoteName) → AreApart folders → (runs : RunsAmong folders [] old)
    → AreMadeOnce folders [] old runs → AreEditedAtHome folders [] old runs
    → (run : IsRun folders old new) → HaveOneTextEach (files_of run.end) folders
    → asked_of run.words
    ≡ asked.Exchange (record { pair = pair; command = peer.Pull remote })
    → Contains folders pair.own → Contains folders pair.peer
    → IsTrue run.sink_tells → HasLines run.status → (pulled : Pulled)
    × PullAnswers pair.own pair.peer remote run.moment.now old run.end (Ok pulled)
    × (run.after ≡ run.before ++ (answer_of_pull pulled).text)
    × ((line : MergeLine) → Contains pulled.merged line → line.word ≡ word.Identity
    → is_refused line.outcome ≡ false)

-- runs of unlike seeds make each identity once
abbrev pub UnlikeSeedsMakeIdentitiesOnce : Type 0
UnlikeSeedsMakeIdentitiesOnce =
    (folders : List (List ℕ)) (old new : History) (runs : RunsAmong folders old new)
    → MakePeopleOfUnlikeSeeds folders old new runs
    → MakePeopleWithoutCollision folders old new runs → AreMadeOnce folders old new runs

-- runs that set each user at home edit each identity at home
abbrev pub IdentitiesAreEditedAtHome : Type 0
IdentitiesAreEditedAtHome =
    (folders : List (List ℕ)) (new : History) → AreApart folders
    → (runs : RunsAmong folders [] new) → AreSetAtHome folders [] new runs
    → AreEditedAtHome folders [] new runs

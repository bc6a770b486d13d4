-- The headline: what `show` prints of a bug, what a merge leaves of both sides, and what `ls` and `board` list.
use Rattle.std.specs.Prelude.{◌≡◌, ◌⊎◌, ⊤, ℕ, false, Contains, List, Option, Some, None, Ok, ◌++◌}
use Rattle.gb_store.specs.Files.{Files, History, files_of}
use Rattle.gb_store.specs.Moments.{IsMoment, Wrote}
use Rattle.bug_edits.specs.declared.moment.Moment.{Moment}
use Rattle.merge_steps.specs.LineJoins.{JoinedBug}
use Rattle.merge_steps.specs.MergeLines.{is_refused}
use Rattle.merge_steps.specs.Pulling.{PullAnswers}
use Rattle.merge_steps.specs.Turns.{MergeAnswers}
use Rattle.merge_steps.specs.declared.line.MergeLine.{MergeLine}
use Rattle.merge_steps.specs.declared.line.Pulled.{Pulled}
use Rattle.remote_name.specs.declared.remote.RemoteName.{RemoteName}
use Rattle.repo_lists.specs.Lists.{ListsBugs}
use Rattle.repo_state.specs.Finds.{FindsNoId}
use Rattle.repo_state.specs.Sound.{IsSound}
use Rattle.repo_state.specs.declared.side.Side.TheVariants as side
use Rattle.repo_state.specs.declared.stop.Missed.{Missed}
use Rattle.repo_steps.specs.Stops.{of_missed}
use Rattle.repo_writes.specs.Kinds.{IsRowWrite}
use Rattle.sync_steps.specs.declared.line.EntityWord.TheVariants as word
use Rattle.words.specs.declared.list.ListRequest.{ListRequest}
use Rattle.words.specs.declared.pair.FolderPair.{FolderPair}
use Rattle.words.specs.declared.words.Asked.{Asked}
use Rattle.words.specs.declared.words.Asked.TheVariants as asked
use Rattle.words.specs.declared.words.Command.{Command}
use Rattle.words.specs.declared.words.Command.TheVariants.{Show}
use Rattle.words.specs.declared.words.PeerCommand.{PeerCommand}
use Rattle.words.specs.declared.words.PeerCommand.TheVariants.{Pull}
use Rattle.bug_run.specs.Exchanges.{answer_of_merge, answer_of_pull}
use Rattle.bug_run.specs.Merged.{RefusesByFault}
use Rattle.bug_run.specs.Printed.{HasLines}
use Rattle.bug_run.specs.Served.{IsAnsweredBut, MayRefuse, MayRefusePeer, ShowsOperations}
use Rattle.bug_run.specs.declared.status.Refused.TheVariants.{ByCommand}
use Rattle.bug_run.specs.declared.status.Status.{Status}
use Rattle.bug_run.specs.declared.status.Status.TheVariants as status

-- ---- the folder

-- the folder in which arguments ask for something: of two, the own one
abbrev pub own_of : Asked → Option (List ℕ)
own_of asked.Nothing = None
own_of (asked.Refused bad) = None
own_of (asked.Request request) = Some request.folder
own_of (asked.Exchange request) = Some request.pair.own
own_of (asked.Merge request) = Some request.folder
own_of (asked.List request) = Some request.folder

-- that folder is sound
abbrev pub OwnIsSound : Asked → Files → Type 0
OwnIsSound asks files = (folder : List ℕ) → own_of asks ≡ Some folder → IsSound folder files

-- that folder is one of these
abbrev pub OwnIsAmong : Asked → List (List ℕ) → Type 0
OwnIsAmong asks folders = (folder : List ℕ) → own_of asks ≡ Some folder → Contains folders folder

-- ---- show

-- what was printed is the bug that the argument finds: the fields that the operation commits below its head give, in order of edit
-- clock and pack id. Nothing was written
pub record PrintsBug (folder sought : List ℕ) (old new : History) (before after : List ℕ) : Type 0 where
  pub text : List ℕ
  pub shows : ShowsOperations (files_of old) folder sought text
  pub printed : after ≡ before ++ text
  pub unwritten : new ≡ old

-- the argument finds no bug, or several, and that is the refusal. Nothing was written
pub record FindsNoBug (folder sought : List ℕ) (old new : History) (answer : Status) : Type 0 where
  pub why : Missed
  pub finds : FindsNoId (files_of old) folder side.Bugs sought why
  pub refused : answer ≡ status.Refused (ByCommand (of_missed why))
  pub unwritten : new ≡ old

-- memory ran out, or the disk or the output failed
abbrev pub IsFault : Status → Type 0
IsFault answer = (answer ≡ status.Memory) ⊎ ((answer ≡ status.DiskFault) ⊎ (answer ≡ status.OutFault))

abbrev pub ShowEnds : List ℕ → List ℕ → History → History → List ℕ → List ℕ → Status → Type 0
ShowEnds folder sought old new before after answer =
    ((answer ≡ status.Done) × PrintsBug folder sought old new before after) ⊎ (FindsNoBug folder sought old new answer ⊎ IsFault answer)

-- ---- merge and pull

-- each bug of which a line is no refusal has, afterwards, exactly the operation commits of both sides
abbrev pub LeavesBothSides : List ℕ → RemoteName → List MergeLine → History → History → Type 0
LeavesBothSides folder remote lines old new =
    (line : MergeLine) → Contains lines line → line.word ≡ word.Bug → is_refused line.outcome ≡ false → JoinedBug folder remote line.id old new

-- the lines of a merge were printed; they join bugs, or refuse them for a fault of both heads together and leave their refs
pub record PrintsMerge (folder : List ℕ) (remote : RemoteName) (now : ℕ) (old new : History) (before after : List ℕ) : Type 0 where
  pub lines : List MergeLine
  pub answers : MergeAnswers folder remote now old new (Ok lines)
  pub printed : after ≡ before ++ (answer_of_merge lines).text
  pub joins : LeavesBothSides folder remote lines old new
  pub refuses : RefusesByFault folder remote lines old new

-- a merge printed its lines, or was refused for one of the two causes that a sound folder leaves
pub record MergeEnds (folder : List ℕ) (remote : RemoteName) (now : ℕ) (old new : History) (before after : List ℕ) (answer : Status) : Type 0 where
  pub answered : IsAnsweredBut (MayRefuse folder old) answer
  pub lines : HasLines answer → PrintsMerge folder remote now old new before after

-- the same of a pull, whose merge begins where its fetch ends
pub record PrintsPull (pair : FolderPair) (remote : RemoteName) (now : ℕ) (old new : History) (before after : List ℕ) : Type 0 where
  pub pulled : Pulled
  pub done : PullAnswers pair.own pair.peer remote now old new (Ok pulled)
  pub printed : after ≡ before ++ (answer_of_pull pulled).text
  pub begins : IsMoment old new done.mid
  pub joins : LeavesBothSides pair.own remote pulled.merged done.mid new
  pub refuses : RefusesByFault pair.own remote pulled.merged done.mid new

pub record PullEnds (pair : FolderPair) (remote : RemoteName) (now : ℕ) (old new : History) (before after : List ℕ) (answer : Status) : Type 0 where
  pub answered : IsAnsweredBut (MayRefusePeer (Pull remote) pair old) answer
  pub lines : HasLines answer → PrintsPull pair remote now old new before after

-- ---- lists

-- what was printed lists the bugs that the query asks for, as compiling each of them from scratch gives them, whatever rows are stored.
-- Rows alone were written
pub record PrintsList (request : ListRequest) (old new : History) (before after : List ℕ) : Type 0 where
  pub text : List ℕ
  pub lists : ListsBugs (files_of old) request.folder request.layout request.query text
  pub printed : after ≡ before ++ text
  pub rows : Wrote (IsRowWrite request.folder) old new

abbrev pub ListEnds : ListRequest → History → History → List ℕ → List ℕ → Status → Type 0
ListEnds request old new before after answer = ((answer ≡ status.Done) × PrintsList request old new before after) ⊎ IsFault answer

-- ---- a run

abbrev pub CommandEnds : Command → List ℕ → History → History → List ℕ → List ℕ → Status → Type 0
CommandEnds (Show sought) folder old new before after answer = ShowEnds folder sought old new before after answer
CommandEnds _ folder old new before after answer = ⊤

abbrev pub PeerEnds : PeerCommand → FolderPair → ℕ → History → History → List ℕ → List ℕ → Status → Type 0
PeerEnds (Pull remote) pair now old new before after answer = PullEnds pair remote now old new before after answer
PeerEnds _ pair now old new before after answer = ⊤

-- What the headline says of a run: how `show`, `merge`, `pull`, `ls` and `board` end, with what is printed and written.
abbrev pub HeadlineHolds : Asked → Moment → History → History → List ℕ → List ℕ → Status → Type 0
HeadlineHolds asked.Nothing moment old new before after answer = ⊤
HeadlineHolds (asked.Refused bad) moment old new before after answer = ⊤
HeadlineHolds (asked.Request request) moment old new before after answer = CommandEnds request.command request.folder old new before after answer
HeadlineHolds (asked.Exchange request) moment old new before after answer = PeerEnds request.command request.pair moment.now old new before after answer
HeadlineHolds (asked.List request) moment old new before after answer = ListEnds request old new before after answer
HeadlineHolds (asked.Merge request) moment old new before after answer = MergeEnds request.folder request.remote moment.now old new before after answer

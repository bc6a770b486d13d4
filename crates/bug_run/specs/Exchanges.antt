-- What an exchange answers, writes, keeps and reads.
use Rattle.std.specs.Prelude.{◌≡◌, ◌≤◌, ◌⊎◌, ◌++◌, ◌+◌, ℕ, List, Result, Ok, Err}
use Rattle.gb_store.specs.Files.{History, files_of}
use Rattle.gb_store.specs.Moments.{AllMoments}
use Rattle.gb_store.specs.declared.store.Change.{Change}
use Rattle.repo_state.specs.Sound.{IsSound, KeepsParts}
use Rattle.merge_steps.specs.MergeLines.{lines_text_of as merge_text_of, refused_in as merge_refused_in}
use Rattle.merge_steps.specs.Pulling.{PullAnswers}
use Rattle.merge_steps.specs.Turns.{MergeAnswers}
use Rattle.merge_steps.specs.declared.line.MergeLine.{MergeLine}
use Rattle.merge_steps.specs.declared.line.Pulled.{Pulled}
use Rattle.merge_steps.specs.declared.stop.MergeStop.{MergeStop}
use Rattle.merge_steps.specs.declared.stop.MergeStop.TheVariants as merge
use Rattle.repo_merge.specs.Quiet.{IsInStep}
use Rattle.repo_merge.specs.Reading.{ReadsMerging, ReadsPulling}
use Rattle.repo_steps.specs.Stops.{stop_of_read}
use Rattle.repo_steps.specs.declared.refusal.Refusal.TheVariants as refusal
use Rattle.repo_steps.specs.declared.refusal.Stop.{Stop}
use Rattle.repo_steps.specs.declared.refusal.Stop.TheVariants as stop
use Rattle.repo_sync.specs.Reading.{ReadsFetched}
use Rattle.sync_steps.specs.Fetching.{FetchAnswers}
use Rattle.sync_steps.specs.Lines.{lines_text_of, refused_in}
use Rattle.sync_steps.specs.Pushing.{PushAnswers}
use Rattle.sync_steps.specs.Quiet.{NothingToFetch, NothingToPush}
use Rattle.sync_steps.specs.declared.line.Line.{Line}
use Rattle.sync_writes.specs.Keeping.{KeepsPartsFrom}
use Rattle.sync_writes.specs.Kinds.{FetchWrites, PushWrites}
use Rattle.words.specs.declared.pair.FolderPair.{FolderPair}
use Rattle.repo_writes.specs.Kinds.{IsWrite}
use Rattle.words.specs.declared.words.MergeRequest.{MergeRequest}
use Rattle.words.specs.declared.words.PeerCommand.{PeerCommand}
use Rattle.words.specs.declared.words.PeerCommand.TheVariants.{Fetch, Pull, Push}
use Rattle.bug_run.specs.Answer.{Answer}

-- ---- the answer

-- the text of lines, with the number of those that tell refusals: of an exchange, of a merge, and of a pull, which has both
abbrev pub answer_of : List Line → Answer
answer_of lines = record { text = lines_text_of lines; refused = refused_in lines }

abbrev pub answer_of_merge : List MergeLine → Answer
answer_of_merge lines = record { text = merge_text_of lines; refused = merge_refused_in lines }

abbrev pub answer_of_pull : Pulled → Answer
answer_of_pull pulled = record { text = lines_text_of pulled.fetched ++ merge_text_of pulled.merged; refused = refused_in pulled.fetched + merge_refused_in pulled.merged }

-- why a command gives no answer that merges
abbrev pub stop_of_merge : MergeStop → Stop
stop_of_merge merge.Memory = stop.Memory
stop_of_merge merge.Disk = stop.Disk
stop_of_merge merge.NoUser = stop.Refused refusal.NoUser
stop_of_merge (merge.Damaged path) = stop.Refused (refusal.Damaged path)
stop_of_merge (merge.Taken name) = stop.Refused (refusal.NameTaken name)

-- the answer that lines give, or that the call gives where it ended. Memory may run out for the text of lines, when all is written.
abbrev pub Told : {Lines Why : Type 0} → (Lines → Answer) → (Why → Stop) → (Result Lines Why → Type 0) → Result Answer Stop → Type 0
Told {Lines = Lines} answer stop_of Answers (Ok said) = (lines : Lines) × Answers (Ok lines) × (said ≡ answer lines)
Told {Lines = Lines} {Why = Why} answer stop_of Answers (Err s) =
    ((why : Why) × Answers (Err why) × (s ≡ stop_of why)) ⊎ ((s ≡ stop.Memory) × ((lines : Lines) × Answers (Ok lines)))

-- the answer to a command with a peer, with what was written
abbrev pub ExchangeAnswers : PeerCommand → FolderPair → ℕ → History → History → Result Answer Stop → Type 0
ExchangeAnswers (Fetch remote) pair now old new result = Told answer_of stop_of_read (FetchAnswers pair.own pair.peer remote old new) result
ExchangeAnswers (Pull remote) pair now old new result = Told answer_of_pull stop_of_merge (PullAnswers pair.own pair.peer remote now old new) result
ExchangeAnswers Push pair now old new result = Told answer_of stop_of_read (PushAnswers pair.own pair.peer old new) result

-- and to a merge
abbrev pub MergeTold : MergeRequest → ℕ → History → History → Result Answer Stop → Type 0
MergeTold request now old new result = Told answer_of_merge stop_of_merge (MergeAnswers request.folder request.remote now old new) result

-- ---- the writes

-- the writes that a command with a peer may make, by the history at entry and the writes of the call so far
abbrev pub ExchangeWrites : PeerCommand → FolderPair → History → List Change → Change → Type 0
ExchangeWrites (Fetch remote) pair entry earlier change = FetchWrites pair.own pair.peer remote entry earlier change
ExchangeWrites (Pull remote) pair entry earlier change =
    FetchWrites pair.own pair.peer remote entry earlier change ⊎ IsWrite pair.own (files_of (earlier ++ entry)) change
ExchangeWrites Push pair entry earlier change = PushWrites pair.own pair.peer (files_of (earlier ++ entry)) change

-- the folder in which it writes, and the other of the two
abbrev pub written_by : PeerCommand → FolderPair → List ℕ
written_by (Fetch remote) pair = pair.own
written_by (Pull remote) pair = pair.own
written_by Push pair = pair.peer

abbrev pub only_read_by : PeerCommand → FolderPair → List ℕ
only_read_by (Fetch remote) pair = pair.peer
only_read_by (Pull remote) pair = pair.peer
only_read_by Push pair = pair.own

-- ---- what it keeps

-- a folder keeps each part that was sound, at each moment; and a sound folder is sound at each
pub record StaysSound (folder : List ℕ) (old new : History) : Type 0 where
  pub parts : KeepsParts folder old new
  pub whole : IsSound folder (files_of old) → AllMoments (IsSound folder) old new

-- a peer keeps each part that was sound in both folders; and where both are sound the peer is sound at each moment
pub record PeerStaysSound (own peer : List ℕ) (old new : History) : Type 0 where
  pub parts : KeepsPartsFrom own peer old new
  pub whole : IsSound own (files_of old) → IsSound peer (files_of old) → AllMoments (IsSound peer) old new

-- a fetch and a pull keep the own folder sound, whatever the peer holds; a push keeps the peer sound if the own folder is
abbrev pub WrittenStaysSound : PeerCommand → FolderPair → History → History → Type 0
WrittenStaysSound (Fetch remote) pair old new = StaysSound pair.own old new
WrittenStaysSound (Pull remote) pair old new = StaysSound pair.own old new
WrittenStaysSound Push pair old new = PeerStaysSound pair.own pair.peer old new

-- and the folder that is only read stays as it is
pub record ExchangeStaysSound (command : PeerCommand) (pair : FolderPair) (old new : History) : Type 0 where
  pub written : WrittenStaysSound command pair old new
  pub only_read : StaysSound (only_read_by command pair) old new

-- ---- what it reads

-- where nothing is new to the folder in which it would write, and lines are answered, no object is read; nor by a pull, if the heads
-- that it merges are the local ones. However a fetch or a pull answers, it reads no more than its turns do, one after another.
abbrev pub ReadsExchange : PeerCommand → FolderPair → ℕ → History → Type 0 → ℕ → ℕ → Type 0
ReadsExchange (Fetch remote) pair now old HasLines before after =
    (HasLines → NothingToFetch pair.own pair.peer remote (files_of old) → after ≡ before) × ReadsFetched pair.own pair.peer remote old before after
ReadsExchange (Pull remote) pair now old HasLines before after =
    (HasLines → NothingToFetch pair.own pair.peer remote (files_of old) → IsInStep (files_of old) pair.own remote → after ≤ before)
    × ReadsPulling pair.own pair.peer remote now old before after
ReadsExchange Push pair now old HasLines before after = HasLines → NothingToPush pair.own pair.peer (files_of old) → after ≡ before

-- no object is read by a merge of heads that are the local ones; and however a merge answers, it reads no more than its turns do
abbrev pub ReadsMerge : MergeRequest → ℕ → History → ℕ → ℕ → Type 0
ReadsMerge request now old before after =
    (IsInStep (files_of old) request.folder request.remote → after ≤ before) × ReadsMerging request.folder request.remote now old before after

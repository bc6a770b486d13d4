-- What the lines that a merge or a pull printed say of bugs.
use Rattle.std.proofs.Common.{◌≡◌, ◌++◌, ℕ, IsTrue, List, Ok}
use Rattle.gb_store.specs.Files.{History}
use Rattle.gb_store.specs.Moments.{IsMoment}
use Rattle.remote_name.specs.declared.remote.RemoteName.{RemoteName}
use Rattle.merge_steps.specs.Pulling.{PullAnswers}
use Rattle.merge_steps.specs.Turns.{MergeAnswers}
use Rattle.merge_steps.specs.declared.line.MergeLine.{MergeLine}
use Rattle.merge_steps.specs.declared.line.Pulled.{Pulled}
use Rattle.merge_steps.proofs.LineJoinLemmas.{line_joined, line_refused}
use Rattle.merge_steps.proofs.MergeWriteLemmas.{merge_wrote}
use Rattle.sync_writes.proofs.FetchKindLemmas.{fetch_writes}
use Rattle.words.specs.declared.pair.FolderPair.{FolderPair}
use Rattle.words.specs.declared.words.Asked.TheVariants as asked
use Rattle.words.specs.declared.words.MergeRequest.{MergeRequest}
use Rattle.words.specs.declared.words.PeerCommand.TheVariants.{Pull}
use Rattle.bug_run.specs.Exchanges.{answer_of_merge, answer_of_pull}
use Rattle.bug_run.specs.Merged.{JoinsEachBug, RefusesByFault}
use Rattle.bug_run.specs.Printed.{HasLines}
use Rattle.bug_run.specs.Run.{Call, RunAnswers}
use Rattle.bug_run.specs.declared.status.Status.{Status}
use Rattle.bug_run.proofs.ExchangeLemmas.{apart}
use Rattle.bug_run.proofs.ExchangeWriteLemmas.{in_time}
use Rattle.bug_run.proofs.LineLemmas.{merge_tells, pull_tells}

module _ (call : Call) (old new : History) (before after : List ℕ) (answer : Status) where
  -- what the lines of the merge of a run say of each bug, given that they say it of those of any merge
  module _ (Says : List ℕ → RemoteName → List MergeLine → History → History → Type 0)
      (says : (folder : List ℕ) (remote : RemoteName) (lines : List MergeLine) (start end : History) → MergeAnswers folder remote call.moment.now start end (Ok lines) → Says folder remote lines start end)
      (tells : IsTrue call.store_tells) (prints : IsTrue call.sink_tells) where
    merge_says : (request : MergeRequest) → call.asked ≡ asked.Merge request → RunAnswers call old new before after answer → HasLines answer
        → (lines : List MergeLine) × MergeAnswers request.folder request.remote call.moment.now old new (Ok lines)
        × (after ≡ before ++ (answer_of_merge lines).text) × Says request.folder request.remote lines old new
    merge_says request asks is has =
        let told = merge_tells call old new before after answer request tells prints asks is has in
        (told.0, told.1, told.2, says request.folder request.remote told.0 old new told.1)

    -- and those of the merge of a pull, which begins at a moment of the call
    pull_says : (pair : FolderPair) (remote : RemoteName) → call.asked ≡ asked.Exchange (record { pair = pair; command = Pull remote }) → RunAnswers call old new before after answer → HasLines answer
        → (pulled : Pulled) × (done : PullAnswers pair.own pair.peer remote call.moment.now old new (Ok pulled))
        × (after ≡ before ++ (answer_of_pull pulled).text) × IsMoment old new done.mid × Says pair.own remote pulled.merged done.mid new
    pull_says pair remote asks is has =
        let told = pull_tells call old new before after answer pair tells prints remote asks is has in
        let done = told.1 in
        let fetched = fetch_writes pair.own pair.peer remote (apart pair) old done.mid (Ok told.0.fetched) done.first in
        let merged = merge_wrote pair.own remote call.moment.now done.mid new (Ok told.0.merged) (in_time call.moment) done.then in
        (told.0, done, told.2, record { later = merged.writes; done = fetched.writes; before = fetched.grew; after = merged.grew }, says pair.own remote told.0.merged done.mid new done.then)

  -- the bugs that are not refused are joined
  joins_each : (folder : List ℕ) (remote : RemoteName) (lines : List MergeLine) (start end : History) → MergeAnswers folder remote call.moment.now start end (Ok lines) → JoinsEachBug folder remote lines start end
  joins_each folder remote lines start end done = λ line has bug ok. line_joined folder remote call.moment.now start end lines done (in_time call.moment) line has bug ok

  pub merge_joins : (request : MergeRequest) → IsTrue call.store_tells → IsTrue call.sink_tells → call.asked ≡ asked.Merge request → RunAnswers call old new before after answer → HasLines answer
      → (lines : List MergeLine) × MergeAnswers request.folder request.remote call.moment.now old new (Ok lines)
      × (after ≡ before ++ (answer_of_merge lines).text) × JoinsEachBug request.folder request.remote lines old new
  merge_joins request tells prints asks is has = merge_says JoinsEachBug joins_each tells prints request asks is has

  pub pull_joins : (pair : FolderPair) (remote : RemoteName) → IsTrue call.store_tells → IsTrue call.sink_tells → call.asked ≡ asked.Exchange (record { pair = pair; command = Pull remote })
      → RunAnswers call old new before after answer → HasLines answer
      → (pulled : Pulled) × (done : PullAnswers pair.own pair.peer remote call.moment.now old new (Ok pulled))
      × (after ≡ before ++ (answer_of_pull pulled).text) × IsMoment old new done.mid × JoinsEachBug pair.own remote pulled.merged done.mid new
  pull_joins pair remote tells prints asks is has = pull_says JoinsEachBug joins_each tells prints pair remote asks is has

  -- the bugs that are refused have their fault
  refuses_each : (folder : List ℕ) (remote : RemoteName) (lines : List MergeLine) (start end : History) → MergeAnswers folder remote call.moment.now start end (Ok lines) → RefusesByFault folder remote lines start end
  refuses_each folder remote lines start end done = λ line why has bug is. line_refused folder remote call.moment.now start end lines done line why has bug is

  pub merge_refused : (request : MergeRequest) → IsTrue call.store_tells → IsTrue call.sink_tells → call.asked ≡ asked.Merge request → RunAnswers call old new before after answer → HasLines answer
      → (lines : List MergeLine) × MergeAnswers request.folder request.remote call.moment.now old new (Ok lines)
      × (after ≡ before ++ (answer_of_merge lines).text) × RefusesByFault request.folder request.remote lines old new
  merge_refused request tells prints asks is has = merge_says RefusesByFault refuses_each tells prints request asks is has

  pub pull_refused : (pair : FolderPair) (remote : RemoteName) → IsTrue call.store_tells → IsTrue call.sink_tells → call.asked ≡ asked.Exchange (record { pair = pair; command = Pull remote })
      → RunAnswers call old new before after answer → HasLines answer
      → (pulled : Pulled) × (done : PullAnswers pair.own pair.peer remote call.moment.now old new (Ok pulled))
      × (after ≡ before ++ (answer_of_pull pulled).text) × IsMoment old new done.mid × RefusesByFault pair.own remote pulled.merged done.mid new
  pull_refused pair remote tells prints asks is has = pull_says RefusesByFault refuses_each tells prints pair remote asks is has

-- The writes of a command with a peer, and of a merge, are of their kinds, whatever it answers.
use Rattle.std.proofs.Common.{◌≡◌, ◌<◌, ◌^◌, inl, inr, ℕ, List, Result, Ok, Err, arith}
use Rattle.gb_store.specs.Files.{History}
use Rattle.gb_store.specs.Moments.{Wrote, WroteBy}
use Rattle.gb_store.specs.declared.store.Change.{Change}
use Rattle.gb_store.proofs.MomentLemmas.{WroteBy-none, WroteBy-wider}
use Rattle.bug_edits.specs.declared.moment.Moment.{Moment}
use Rattle.repo_steps.specs.declared.refusal.Stop.{Stop}
use Rattle.repo_writes.specs.Kinds.{IsWrite}
use Rattle.merge_steps.specs.Pulling.{PullAnswers}
use Rattle.merge_steps.specs.Turns.{MergeAnswers, NotBegun}
use Rattle.merge_steps.specs.declared.line.Pulled.{Pulled}
use Rattle.merge_steps.specs.declared.stop.MergeStop.{MergeStop}
use Rattle.merge_steps.specs.declared.stop.MergeStop.TheVariants as merge
use Rattle.merge_steps.proofs.MergeWriteLemmas.{merge_wrote}
use Rattle.remote_name.specs.declared.remote.RemoteName.{RemoteName}
use Rattle.sync_steps.specs.Fetching.{FetchAnswers}
use Rattle.sync_steps.specs.Pushing.{PushAnswers}
use Rattle.sync_writes.specs.Kinds.{FetchWrites}
use Rattle.sync_writes.proofs.FetchKindLemmas.{fetch_writes}
use Rattle.sync_writes.proofs.PartsLemmas.{wrote_behind}
use Rattle.sync_writes.proofs.PushKindLemmas.{push_writes}
use Rattle.words.specs.declared.pair.FolderPair.{FolderPair}
use Rattle.words.specs.declared.words.MergeRequest.{MergeRequest}
use Rattle.words.specs.declared.words.PeerCommand.{PeerCommand}
use Rattle.words.specs.declared.words.PeerCommand.TheVariants.{Fetch, Pull, Push}
use Rattle.bug_run.specs.Answer.{Answer}
use Rattle.bug_run.specs.Exchanges.{ExchangeAnswers, ExchangeWrites, MergeTold, Told, answer_of, answer_of_merge, answer_of_pull, stop_of_merge}
use Rattle.repo_steps.specs.Stops.{stop_of_read}
use Rattle.bug_run.proofs.ExchangeLemmas.{apart}

-- a moment is below the limit of commits' times
pub in_time : (moment : Moment) → moment.now < 2 ^ 64
in_time moment = omega (arith, moment.within)

-- whatever is told, the call gave its lines or ended
told_of : {Lines Why : Type 0} (answer : Lines → Answer) (stop_of : Why → Stop) (Answers : Result Lines Why → Type 0) (result : Result Answer Stop) → Told answer stop_of Answers result
    → (given : Result Lines Why) × Answers given
told_of answer stop_of Answers (Ok said) (lines, is, told) = (Ok lines, is)
told_of answer stop_of Answers (Err s) (inl (why, is, told)) = (Err why, is)
told_of answer stop_of Answers (Err s) (inr (want, (lines, is))) = (Ok lines, is)

-- ---- pulls

module _ (remote : RemoteName) (pair : FolderPair) (now : ℕ) (limit : now < 2 ^ 64) (old new : History) where
  abbrev Wide : History → List Change → Change → Type 0
  Wide = ExchangeWrites (Pull remote) pair

  -- what the fetch of a pull writes
  by_fetch : (end : History) → WroteBy (FetchWrites pair.own pair.peer remote) old end → WroteBy Wide old end
  by_fetch end wrote = WroteBy-wider (FetchWrites pair.own pair.peer remote) Wide old end (λ (earlier : List Change) (change : Change) fetched. inl fetched) wrote

  -- and then its merge
  by_merge : (mid : History) → WroteBy Wide old mid → Wrote (IsWrite pair.own) mid new → WroteBy Wide old new
  by_merge mid first then =
      wrote_behind (IsWrite pair.own) Wide (λ (h : History). Unit {0}) old mid new (λ h change good may. tt) (λ earlier change good may. inr may) first tt then

  -- nothing is written where a pull is not begun
  not_begun : (why : MergeStop) → NotBegun pair.own remote now why old new → new ≡ old
  not_begun merge.Memory same = same
  not_begun merge.Disk same = same
  not_begun merge.NoUser is = is.1
  not_begun (merge.Damaged path) is = is.2
  not_begun (merge.Taken name) none = absurd none

  pull_wrote : (given : Result Pulled MergeStop) → PullAnswers pair.own pair.peer remote now old new given → WroteBy Wide old new
  pull_wrote (Ok pulled) is =
      by_merge is.mid (by_fetch is.mid (fetch_writes pair.own pair.peer remote (apart pair) old is.mid (Ok pulled.fetched) is.first))
      (merge_wrote pair.own remote now is.mid new (Ok pulled.merged) limit is.then)
  pull_wrote (Err why) (inl none) = WroteBy-none Wide old new (not_begun why none)
  pull_wrote (Err why) (inr (inl is)) = by_fetch new (fetch_writes pair.own pair.peer remote (apart pair) old new (Err is.stop) is.ended)
  pull_wrote (Err why) (inr (inr (fetched, is))) =
      by_merge is.mid (by_fetch is.mid (fetch_writes pair.own pair.peer remote (apart pair) old is.mid (Ok fetched) is.first))
      (merge_wrote pair.own remote now is.mid new (Err why) limit is.then)

-- ---- any of them

pub exchange_wrote : (command : PeerCommand) (pair : FolderPair) (now : ℕ) → now < 2 ^ 64 → (old new : History) (result : Result Answer Stop) → ExchangeAnswers command pair now old new result
    → WroteBy (ExchangeWrites command pair) old new
exchange_wrote (Fetch remote) pair now limit old new result is =
    let given = told_of answer_of stop_of_read (FetchAnswers pair.own pair.peer remote old new) result is in fetch_writes pair.own pair.peer remote (apart pair) old new given.0 given.1
exchange_wrote (Pull remote) pair now limit old new result is =
    let given = told_of answer_of_pull stop_of_merge (PullAnswers pair.own pair.peer remote now old new) result is in pull_wrote remote pair now limit old new given.0 given.1
exchange_wrote Push pair now limit old new result is =
    let given = told_of answer_of stop_of_read (PushAnswers pair.own pair.peer old new) result is in push_writes pair.own pair.peer (apart pair) old new given.0 given.1

pub merge_told_wrote : (request : MergeRequest) (now : ℕ) → now < 2 ^ 64 → (old new : History) (result : Result Answer Stop) → MergeTold request now old new result
    → Wrote (IsWrite request.folder) old new
merge_told_wrote request now limit old new result is =
    let given = told_of answer_of_merge stop_of_merge (MergeAnswers request.folder request.remote now old new) result is in
    merge_wrote request.folder request.remote now old new given.0 limit given.1

-- What the lines of an exchange or of a merge acknowledge is kept whatever is run then.
use Rattle.std.proofs.Common.{◌≡◌, inl, inr, ◌∙◌, ℕ, false, List, [], ◌∷◌, Contains, Ok}
use Rattle.gb_text.specs.declared.id.Name.{Name}
use Rattle.gb_store.specs.Files.{Files, History, files_of}
use Rattle.commit_walk.proofs.BelowLemmas.{IsBelow-stays}
use Rattle.object_store.specs.Held.{objects_in}
use Rattle.ref_store.specs.Refs.{Head}
use Rattle.remote_name.specs.declared.remote.RemoteName.{RemoteName}
use Rattle.repo_state.specs.Sides.{head_at}
use Rattle.repo_writes.specs.Kept.{IsOwnSide, KeepsBelow, LosesNothing}
use Rattle.sync_steps.specs.Fetching.{FetchAnswers}
use Rattle.sync_steps.specs.Places.{local_side, tracking_side}
use Rattle.sync_steps.specs.Pushing.{PushAnswers}
use Rattle.sync_steps.specs.declared.line.EntityWord.{EntityWord}
use Rattle.sync_steps.specs.declared.line.EntityWord.TheVariants as word
use Rattle.sync_steps.specs.declared.line.Line.{Line}
use Rattle.sync_steps.specs.declared.line.Outcome.TheVariants as outcome
use Rattle.merge_steps.specs.MergeLines.{is_refused}
use Rattle.merge_steps.specs.Turns.{MergeAnswers}
use Rattle.merge_steps.specs.declared.line.MergeLine.{MergeLine}
use Rattle.merge_steps.proofs.OtherRefLemmas.{merge_leaves}
use Rattle.bug_edits.specs.declared.moment.Moment.{Moment}
use Rattle.bug_run.proofs.ExchangeWriteLemmas.{in_time}
use Rattle.ref_moments.proofs.FetchLemmas.{fetch_line}
use Rattle.ref_moments.proofs.MergeLemmas.{merge_line_id}
use Rattle.ref_moments.proofs.MomentLemmas.{set_end}
use Rattle.ref_moments.proofs.PullLemmas.{sides_apart}
use Rattle.ref_moments.proofs.PushLemmas.{push_line, push_line_id}
use Rattle.run_moments.specs.Lines.{HasTracked, KeepsAllBelow}
use Rattle.run_moments.proofs.EditLemmas.{head_kept}
use Rattle.run_moments.proofs.LineLemmas.{line_tracked, tracked_kept}

-- a local side is the folder's own
own_side : (kind : EntityWord) → IsOwnSide (local_side kind)
own_side word.Identity = tt
own_side word.Bug = tt

-- what lies below a head where nothing is lost
pub all_below_kept : (folder : List ℕ) (old new : Files) → LosesNothing folder old new → (head : Name) → KeepsAllBelow folder old new head
all_below_kept folder old new kept head name low = IsBelow-stays (objects_in old folder) (objects_in new folder) kept.objects (head ∷ []) name low

-- what a fetch acknowledges: the tracking ref has a head, below which all is kept
abbrev pub FetchKept : List ℕ → RemoteName → Files → Files → Line → Type 0
FetchKept own remote mid new line = (head : Name) × (head_at mid own (tracking_side remote line.word) line.id ≡ Head head) × KeepsAllBelow own mid new head

pub fetch_kept : (own peer : List ℕ) (remote : RemoteName) (old mid : History) (new : Files) (lines : List Line) → FetchAnswers own peer remote old mid (Ok lines) → LosesNothing own (files_of mid) new
    → (line : Line) → Contains lines line → line.outcome ≡ outcome.Fetched → FetchKept own remote (files_of mid) new line
fetch_kept own peer remote old mid new lines answers kept line c is = elim (fetch_line own peer remote old mid lines answers line c) [
  | inl (fetched, (head, has, set)) ↦ (head, set_end own (tracking_side remote line.word) line.id head old mid set, all_below_kept own (files_of mid) new kept head)
  | inr (not, stays) ↦ absurd (not is)
]

-- what a push acknowledges: the head of the own folder's ref stays below that of the peer's
pub push_kept : (own peer : List ℕ) (old mid : History) (new : Files) (lines : List Line) → PushAnswers own peer old mid (Ok lines) → LosesNothing peer (files_of mid) new
    → (line : Line) → Contains lines line → line.outcome ≡ outcome.Pushed
    → (head : Name) × (head_at (files_of old) own (local_side line.word) line.id ≡ Head head) × KeepsBelow peer new (local_side line.word) line.id head
push_kept own peer old mid new lines answers kept line c is = elim (push_line own peer old mid lines answers line c) [
  | inl (pushed, (head, has, set)) ↦ (
    head,
    has,
    head_kept peer (files_of mid) new kept (local_side line.word) (own_side line.word) line.id (push_line_id own peer old mid lines answers line c) head
        (set_end peer (local_side line.word) line.id head old mid set),
  )
  | inr (not, stays) ↦ absurd (not is)
]

-- what a merge acknowledges: all that was tracked
pub merge_kept : (folder : List ℕ) (remote : RemoteName) (moment : Moment) (old mid : History) (new : Files) (lines : List MergeLine) → MergeAnswers folder remote moment.now old mid (Ok lines)
    → LosesNothing folder (files_of mid) new → (line : MergeLine) → Contains lines line → is_refused line.outcome ≡ false → HasTracked line.word folder remote line.id (files_of old) new
merge_kept folder remote moment old mid new lines answers kept line c ok =
    tracked_kept line.word folder remote line.id (files_of old) (files_of mid) new (merge_line_id folder remote moment.now old lines mid answers line c) kept
    (line_tracked folder remote moment.now (in_time moment) old mid lines answers line c ok)

-- a merge leaves the tracking refs, so what the fetch of a pull acknowledges holds when the pull ends
pub pull_fetch_kept : (own peer : List ℕ) (remote : RemoteName) (now : ℕ) (old mid end : History) (new : Files) (lines : List Line) (merged : List MergeLine) → FetchAnswers own peer remote old mid (Ok lines)
    → MergeAnswers own remote now mid end (Ok merged) → LosesNothing own (files_of end) new → (line : Line) → Contains lines line → line.outcome ≡ outcome.Fetched → FetchKept own remote (files_of end) new line
pull_fetch_kept own peer remote now old mid end new lines merged answers then kept line c is = elim (fetch_line own peer remote old mid lines answers line c) [
  | inl (fetched, (head, has, set)) ↦ (
    head,
    merge_leaves own remote now mid end (tracking_side remote line.word) line.id (λ kind. sides_apart remote line.word kind) (Ok merged) then
        ∙ set_end own (tracking_side remote line.word) line.id head old mid set,
    all_below_kept own (files_of end) new kept head,
  )
  | inr (not, stays) ↦ absurd (not is)
]

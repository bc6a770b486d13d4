-- What a line of a merge brought is kept whatever is run then, and what it refused is as it was.
use Rattle.std.proofs.Common.{◌≡◌, ◌<◌, ◌^◌, inl, inr, refl, sym, ◌∙◌, subst, ℕ, true, false, List, [], ◌∷◌, Contains, Ok}
use Rattle.gb_text.specs.Digits.{IsId}
use Rattle.gb_text.specs.declared.id.Id.{Id}
use Rattle.gb_text.specs.declared.id.Name.{Name}
use Rattle.gb_store.specs.Files.{Files, History, files_of}
use Rattle.gb_store.specs.Moments.{IsMoment, Wrote}
use Rattle.gb_store.proofs.MomentLemmas.{IsMoment-of_second}
use Rattle.commit_walk.proofs.BelowLemmas.{IsBelow-stays}
use Rattle.commit_walk.proofs.ChainLemmas.{chain_below}
use Rattle.object_store.specs.Growth.{OnlyGrew}
use Rattle.object_store.specs.Held.{Objects, objects_after}
use Rattle.ref_store.specs.Refs.{Head}
use Rattle.remote_name.specs.declared.remote.RemoteName.{RemoteName}
use Rattle.bug_ops.specs.Kind.{bug_kind}
use Rattle.bug_ops.specs.declared.op.BugOp.{BugOp}
use Rattle.dag_entity.specs.Entities.{IsOperationCommit}
use Rattle.dag_entity.specs.declared.entity.Placed.{Placed}
use Rattle.repo_state.specs.declared.side.Side.TheVariants as side
use Rattle.repo_writes.specs.Kept.{KeepsBelow, LosesNothing}
use Rattle.repo_writes.specs.Kinds.{IsWrite}
use Rattle.sync_steps.specs.Fetching.{FetchAnswers}
use Rattle.sync_steps.specs.Places.{local_side}
use Rattle.sync_steps.specs.declared.line.EntityWord.{EntityWord}
use Rattle.sync_steps.specs.declared.line.EntityWord.TheVariants as word
use Rattle.sync_steps.specs.declared.line.Line.{Line}
use Rattle.merge_steps.specs.Left.{WasLeft}
use Rattle.merge_steps.specs.LineJoins.{JoinedLine}
use Rattle.merge_steps.specs.MergeLines.{is_refused}
use Rattle.merge_steps.specs.Turns.{MergeAnswers}
use Rattle.merge_steps.specs.declared.line.MergeLine.{MergeLine}
use Rattle.merge_steps.specs.declared.line.MergeOutcome.{MergeOutcome}
use Rattle.merge_steps.specs.declared.line.MergeOutcome.TheVariants as outcome
use Rattle.merge_steps.proofs.DoneLemmas.{line_left}
use Rattle.merge_steps.proofs.LineJoinLemmas.{line_joined}
use Rattle.merge_steps.proofs.MergeWriteLemmas.{merge_wrote}
use Rattle.ref_moments.specs.Once.{StaysSame}
use Rattle.ref_moments.specs.Sets.{moves}
use Rattle.ref_moments.proofs.FetchLemmas.{fetch_once}
use Rattle.ref_moments.proofs.LeadLemmas.{kinds_lead_on}
use Rattle.ref_moments.proofs.MergeLemmas.{merge_line, merge_line_id}
use Rattle.ref_moments.proofs.OnceLemmas.{first_moment, last_moment, stays_then}
use Rattle.ref_moments.proofs.PullLemmas.{sides_apart}
use Rattle.bug_edits.specs.declared.moment.Moment.{Moment}
use Rattle.bug_run.proofs.ExchangeLemmas.{apart}
use Rattle.bug_run.proofs.ExchangeWriteLemmas.{in_time}
use Rattle.sync_writes.proofs.FetchKindLemmas.{fetch_writes}
use Rattle.words.specs.declared.pair.FolderPair.{FolderPair}
use Rattle.run_moments.specs.Lines.{HasTracked}
use Rattle.run_moments.proofs.SurviveLemmas.{commit_kept, pack_stays}

-- an operation commit stays one where objects are only added
commit_grows : (old new : Objects) → OnlyGrew old new → (head : Name) (placed : Placed BugOp) → IsOperationCommit bug_kind old (head ∷ []) placed → IsOperationCommit bug_kind new (head ∷ []) placed
commit_grows old new grew head placed is = record {
  below = IsBelow-stays old new grew (head ∷ []) placed.commit is.below;
  has = pack_stays old new grew placed.commit placed.pack is.has;
  some = is.some;
}

module _ (folder : List ℕ) (remote : RemoteName) (now : ℕ) (moment : now < 2 ^ 64) (old new : History) (lines : List MergeLine) (done : MergeAnswers folder remote now old new (Ok lines)) where
  wrote : Wrote (IsWrite folder) old new
  wrote = merge_wrote folder remote now old new (Ok lines) moment done

  -- objects grow between two moments
  grew : (early late : History) → IsMoment old new early → IsMoment early new late → OnlyGrew (objects_after early folder) (objects_after late folder)
  grew early late is then = (kinds_lead_on folder old new wrote early late is then).objects

  -- and up to the end
  grew_on : (early : History) → IsMoment old new early → OnlyGrew (objects_after early folder) (objects_after new folder)
  grew_on early is = grew early new is (last_moment early new (first_moment early new is.later is.after))

  start : IsMoment old new old
  start = first_moment old new wrote.writes wrote.grew

  -- a bug that was joined
  bug_tracked : (line : MergeLine) → JoinedLine folder remote line old new → HasTracked word.Bug folder remote line.id (files_of old) (files_of new)
  bug_tracked line at tracked placed is_tracked is =
      let heads : Head at.tracked ≡ Head tracked = sym at.heads.was_tracked ∙ is_tracked in
      let same : tracked ≡ at.tracked = cc heads in
      let here = commit_grows (objects_after old folder) (objects_after at.mid folder) (grew old at.mid start at.is_mid) tracked placed is in
      let there = (at.joins.union placed).1 (inr (subst (λ (h : Name). IsOperationCommit bug_kind (objects_after at.mid folder) (h ∷ []) placed) same here)) in
      record {
        head = at.joins.head;
        is_head = at.stays ∙ at.joins.is_head;
        is = commit_grows (objects_after at.end folder) (objects_after new folder) (grew_on at.end at.is_end) at.joins.head placed there;
      }

  -- an identity that was left
  person_tracked : (id : Id) → WasLeft folder remote word.Identity id old new → HasTracked word.Identity folder remote id (files_of old) (files_of new)
  person_tracked id at tracked is_tracked =
      let heads : Head at.tracked ≡ Head tracked = sym at.is_tracked ∙ is_tracked in
      let same : at.tracked ≡ tracked = cc heads in
      let below = chain_below (objects_after at.after folder) at.left.head at.left.has.above at.tracked at.left.has.chain in
      let end : IsMoment old new at.after = IsMoment-of_second old at.before new at.after (first_moment old at.before at.came.done at.came.before) at.goes in
      subst (KeepsBelow folder (files_of new) side.Identities id) same (record {
        head = at.left.head;
        is_head = at.stands ∙ at.left.is_head;
        below = IsBelow-stays (objects_after at.after folder) (objects_after new folder) (grew_on at.after end) (at.left.head ∷ []) at.tracked below;
      })

  -- each line that is no refusal has what was tracked
  pub line_tracked : (line : MergeLine) → Contains lines line → is_refused line.outcome ≡ false → HasTracked line.word folder remote line.id (files_of old) (files_of new)
  line_tracked line c ok = by line.word refl
    where
      by : (kind : EntityWord) → line.word ≡ kind → HasTracked line.word folder remote line.id (files_of old) (files_of new)
      by word.Bug is =
          subst (λ (kind : EntityWord). HasTracked kind folder remote line.id (files_of old) (files_of new)) (sym is)
          (bug_tracked line (line_joined folder remote now old new lines done moment line c is ok))
      by word.Identity is =
          subst (λ (kind : EntityWord). HasTracked kind folder remote line.id (files_of old) (files_of new)) (sym is)
          (person_tracked line.id (subst (λ (kind : EntityWord). WasLeft folder remote kind line.id old new) is (line_left folder remote now moment old new lines done line c ok)))

-- what was tracked is kept where nothing is lost
pub tracked_kept : (kind : EntityWord) (folder : List ℕ) (remote : RemoteName) (id : Id) (old mid new : Files) → IsId id → LosesNothing folder mid new → HasTracked kind folder remote id old mid
    → HasTracked kind folder remote id old new
tracked_kept word.Identity folder remote id old mid new is kept has = λ tracked is_tracked.
    let at = has tracked is_tracked in kept.heads side.Identities tt id is at.head tracked at.is_head at.below
tracked_kept word.Bug folder remote id old mid new is kept has = λ tracked placed is_tracked commit. commit_kept folder mid new kept id is placed (has tracked placed is_tracked commit)

-- ---- refused lines

-- what refuses moves nothing
refused_unmoved : (out : MergeOutcome) → is_refused out ≡ true → moves out ≡ false
refused_unmoved outcome.Nothing is = absurd (cc is)
refused_unmoved outcome.New is = absurd (cc is)
refused_unmoved outcome.Forward is = absurd (cc is)
refused_unmoved outcome.Joined is = absurd (cc is)
refused_unmoved (outcome.InvalidBug f) is = refl
refused_unmoved (outcome.InvalidIdentity f) is = refl
refused_unmoved (outcome.NotForward name) is = refl

-- the local ref of an entity that is refused is as it was at each moment
pub refused_stays : (folder : List ℕ) (remote : RemoteName) (now : ℕ) (old new : History) (lines : List MergeLine) → MergeAnswers folder remote now old new (Ok lines) → (line : MergeLine) → Contains lines line
    → is_refused line.outcome ≡ true → StaysSame folder (local_side line.word) line.id old new
refused_stays folder remote now old new lines done line c refused = elim (merge_line folder remote now old lines new done line c) [
  | inl moved ↦ absurd (cc (sym (refused_unmoved line.outcome refused) ∙ moved.0))
  | inr stays ↦ stays.1
]

-- a fetch leaves each local ref
pub fetch_leaves_local : (own peer : List ℕ) (remote : RemoteName) (old new : History) (lines : List Line) → FetchAnswers own peer remote old new (Ok lines) → (kind : EntityWord) (id : Id) → IsId id
    → StaysSame own (local_side kind) id old new
fetch_leaves_local own peer remote old new lines answers kind id is_id = elim (fetch_once own peer remote old (local_side kind) id is_id new (Ok lines) answers) [
  | inl stays ↦ stays
  | inr fetched ↦ absurd (sides_apart remote fetched.word kind (sym fetched.is_side))
]

-- the merge of a pull begins at a moment of the call
pub pull_begins : (moment : Moment) (pair : FolderPair) (remote : RemoteName) (old mid new : History) (lines : List Line) (merged : List MergeLine) → FetchAnswers pair.own pair.peer remote old mid (Ok lines)
    → MergeAnswers pair.own remote moment.now mid new (Ok merged) → IsMoment old new mid
pull_begins moment pair remote old mid new lines merged first then =
    let fetched = fetch_writes pair.own pair.peer remote (apart pair) old mid (Ok lines) first in
    let after = merge_wrote pair.own remote moment.now mid new (Ok merged) (in_time moment) then in
    record { later = after.writes; done = fetched.writes; before = fetched.grew; after = after.grew }

-- the local ref of an entity that a pull refuses is as it was at each moment of the call
pub pull_refused_stays : (own peer : List ℕ) (remote : RemoteName) (now : ℕ) (old mid new : History) (lines : List Line) (merged : List MergeLine) → FetchAnswers own peer remote old mid (Ok lines)
    → MergeAnswers own remote now mid new (Ok merged) → (line : MergeLine) → Contains merged line → is_refused line.outcome ≡ true → StaysSame own (local_side line.word) line.id old new
pull_refused_stays own peer remote now old mid new lines merged first then line c refused =
    stays_then own (local_side line.word) line.id old mid new
    (fetch_leaves_local own peer remote old mid lines first line.word line.id (merge_line_id own remote now mid merged new then line c))
    (refused_stays own remote now mid new merged then line c refused)

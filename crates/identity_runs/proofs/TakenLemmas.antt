-- A merge sets the local ref of an identity to its tracked head, and leaves each other ref of identities.
use Rattle.std.proofs.Common.{◌≡◌, ◌⊎◌, inl, inr, refl, sym, ◌∙◌, ap, subst, ℕ, List, ◌∷◌, Option, Some, Result, Ok, Err}
use Rattle.gb_text.specs.Digits.{IsId, IsName}
use Rattle.gb_text.specs.declared.id.Id.{Id}
use Rattle.gb_text.specs.declared.id.Name.{Name}
use Rattle.gb_store.specs.Files.{History, files_of}
use Rattle.ref_store.specs.Refs.{Head}
use Rattle.ref_store.specs.Setting.{ref_write}
use Rattle.remote_name.specs.declared.remote.RemoteName.{RemoteName}
use Rattle.repo_state.specs.Listed.{ref_with}
use Rattle.repo_state.specs.Sides.{head_at, ref_place}
use Rattle.repo_state.specs.declared.refs.EntityRef.{EntityRef}
use Rattle.repo_state.specs.declared.side.Side.{Side}
use Rattle.repo_state.specs.declared.side.Side.TheVariants as side
use Rattle.repo_state.proofs.PlaceLemmas.{ref_place-side}
use Rattle.merge_steps.specs.Merging.{BugStops, MergeTurn, MergesBug, MergesPerson, PersonCutOff, PersonOutcome, PersonStops}
use Rattle.merge_steps.specs.Turns.{Ended, MergeAnswers, Tracked, Went}
use Rattle.merge_steps.specs.declared.line.MergeLine.{MergeLine}
use Rattle.merge_steps.specs.declared.line.MergeOutcome.{MergeOutcome}
use Rattle.merge_steps.specs.declared.line.MergeOutcome.TheVariants as outcome
use Rattle.merge_steps.specs.declared.stop.MergeStop.{MergeStop}
use Rattle.merge_steps.specs.declared.stop.TurnStop.{TurnStop}
use Rattle.merge_steps.specs.declared.stop.TurnStop.TheVariants as stop
use Rattle.merge_steps.proofs.MergeWriteLemmas.{not_begun_same}
use Rattle.ref_moments.specs.Once.{IsSetOnce, StaysSame}
use Rattle.ref_moments.proofs.FetchLemmas.{Named}
use Rattle.ref_moments.proofs.ListedLemmas.{IsListed, SetBy, end_listed, ended_once, listed_name, placed_id, set_by_then, went_once}
use Rattle.ref_moments.proofs.MergeLemmas.{AnyHead, bug_once, bug_stop}
use Rattle.ref_moments.proofs.OnceLemmas.{stays_none, stays_then}
use Rattle.ref_moments.proofs.PutLemmas.{put_once}
use Rattle.ref_moments.proofs.TurnLemmas.{Once}
use Rattle.identity_runs.specs.Heads.{IsOfPeople}

-- the head of a tracking ref as it was listed
abbrev IsTracked : EntityRef → Name → Type 0
IsTracked entity head = entity.head ≡ Some head

abbrev ref_of : MergeTurn → EntityRef
ref_of turn = turn.entity

-- the ref of an id is that of a local identity, and is set to the head that the folder has last seen of it at the remote
pub record TakesTracked (folder : List ℕ) (remote : RemoteName) (of : Side) (id : Id) (old new : History) : Type 0 where
  pub is_side : of ≡ side.Identities
  pub head : Name
  pub is_tracked : head_at (files_of old) folder (side.RemoteIdentities remote) id ≡ Head head
  pub once : IsSetOnce folder of id head old new

module _ (folder : List ℕ) (remote : RemoteName) (now : ℕ) (old : History) (of : Side) (people : IsOfPeople of) (id : Id) where
  -- ---- turns of identities

  module _ (entity : EntityRef) where
    abbrev PersonOnce : History → History → Type 0
    PersonOnce before after = Once folder side.Identities of id IsTracked entity before after

    put : (tracked : Name) → entity.head ≡ Some tracked → IsName tracked → (before after : History) → after ≡ ref_write folder (ref_place side.Identities entity.id) tracked ∷ before → PersonOnce before after
    put tracked has named before after is = elim (put_once folder of id side.Identities entity.id tracked named before before after (stays_none folder of id before before refl) is) [
      | inl stays ↦ inl stays
      | inr (place, set) ↦ inr (record { head = tracked; is_head = has; place = place; set = set })
    ]

    by_outcome : (local : Option Name) (tracked : Name) (out : MergeOutcome) (before after : History) → entity.head ≡ Some tracked → IsName tracked
        → PersonOutcome folder entity.id local tracked out before after → PersonOnce before after
    by_outcome local tracked outcome.Nothing before after has named is = inl (stays_none folder of id before after is.1)
    by_outcome local tracked outcome.New before after has named is = put tracked has named before after is.1
    by_outcome local tracked outcome.Forward before after has named is = put tracked has named before after is.1
    by_outcome local tracked (outcome.InvalidIdentity f) before after has named is = inl (stays_none folder of id before after is.1)
    by_outcome local tracked (outcome.NotForward name) before after has named is = inl (stays_none folder of id before after is.2)
    by_outcome local tracked outcome.Joined before after has named is = absurd is
    by_outcome local tracked (outcome.InvalidBug f) before after has named is = absurd is

    turned : (out : MergeOutcome) (before after : History) → Named entity.head → MergesPerson folder (record { entity = entity; outcome = out }) before after → PersonOnce before after
    turned out before after named is = by_outcome is.local is.tracked out before after is.is_tracked (named is.tracked is.is_tracked) is.is

    cut : (before after : History) → Named entity.head → PersonCutOff folder entity before after → PersonOnce before after
    cut before after named (inl same) = inl (stays_none folder of id before after same)
    cut before after named (inr (out, is)) = turned out before after named is

    stopped : (why : TurnStop) (before after : History) → Named entity.head → PersonStops folder (side.RemoteIdentities remote) why entity before after → PersonOnce before after
    stopped stop.Memory before after named is = cut before after named is
    stopped stop.Disk before after named is = cut before after named is
    stopped (stop.Damaged path) before after named is = inl (stays_none folder of id before after is.1)
    stopped (stop.Taken name) before after named none = absurd none

  -- ---- a whole merge

  abbrev Listed : Side → EntityRef → Type 0
  Listed from entity = IsListed old folder from entity

  named : (from : Side) (entity : EntityRef) → IsListed old folder from entity → Named entity.head
  named from entity listed = listed_name old folder from entity listed

  -- the ref is set in the turn of an identity
  abbrev SetOf : History → History → Type 0
  SetOf before after = SetBy old folder (side.RemoteIdentities remote) folder side.Identities of id IsTracked before after

  abbrev Out : History → History → Type 0
  Out before after = StaysSame folder of id before after ⊎ SetOf before after

  person_each : (turn : MergeTurn) (before after : History) → IsListed old folder (side.RemoteIdentities remote) turn.entity → MergesPerson folder turn before after
      → Once folder side.Identities of id IsTracked turn.entity before after
  person_each turn before after listed step = turned turn.entity turn.outcome before after (named (side.RemoteIdentities remote) turn.entity listed) step

  turns_of_people : (tracked : Tracked folder remote now old) (turns : List MergeTurn) (mid : History) → Went (MergesPerson folder) tracked.people turns old mid → Out old mid
  turns_of_people tracked turns mid went =
      went_once old folder (side.RemoteIdentities remote) folder side.Identities of id IsTracked ref_of (MergesPerson folder) person_each tracked.people tracked.are_people turns went.are old mid went.each

  end_of_people : (why : TurnStop) (tracked : Tracked folder remote now old) (new : History) → Ended (MergesPerson folder) (PersonStops folder (side.RemoteIdentities remote)) why tracked.people old new → Out old new
  end_of_people why tracked new ended =
      ended_once old folder (side.RemoteIdentities remote) folder side.Identities of id IsTracked ref_of (MergesPerson folder) person_each tracked.people tracked.are_people ended.done ended.at ended.rest ended.are
      old ended.mid new ended.before
      (stopped ended.at why ended.mid new
      (named (side.RemoteIdentities remote) ended.at
      (end_listed old folder (side.RemoteIdentities remote) folder side.Identities of id IsTracked ref_of (MergesPerson folder) person_each tracked.people tracked.are_people ended.done ended.at ended.rest ended.are)) ended.ended)

  -- the ref of an identity is not that of a bug
  stays_there : (before after : History) → StaysSame folder of id before after ⊎ SetBy old folder (side.RemoteBugs remote) folder side.Bugs of id AnyHead before after → StaysSame folder of id before after
  stays_there before after (inl stays) = stays
  stays_there before after (inr set) = absurd (subst IsOfPeople (sym (ref_place-side side.Bugs of set.entity.id id set.sets.place)) people)

  bug_each : (user : Id) (authors : List Id) (turn : MergeTurn) (before after : History) → IsListed old folder (side.RemoteBugs remote) turn.entity → MergesBug folder user authors now turn before after
      → Once folder side.Bugs of id AnyHead turn.entity before after
  bug_each user authors turn before after listed step = bug_once folder user authors now of id turn.entity turn.outcome before after (named (side.RemoteBugs remote) turn.entity listed) step

  turns_of_bugs : (tracked : Tracked folder remote now old) (authors : List Id) (turns : List MergeTurn) (mid new : History) → Went (MergesBug folder tracked.user authors now) tracked.bugs turns mid new
      → StaysSame folder of id mid new
  turns_of_bugs tracked authors turns mid new went =
      stays_there mid new
      (went_once old folder (side.RemoteBugs remote) folder side.Bugs of id AnyHead ref_of (MergesBug folder tracked.user authors now) (bug_each tracked.user authors) tracked.bugs tracked.are_bugs turns went.are mid new went.each)

  end_of_bugs : (why : TurnStop) (tracked : Tracked folder remote now old) (authors : List Id) (mid new : History)
      → Ended (MergesBug folder tracked.user authors now) (BugStops folder tracked.user authors now (side.RemoteBugs remote)) why tracked.bugs mid new → StaysSame folder of id mid new
  end_of_bugs why tracked authors mid new ended =
      let Step = MergesBug folder tracked.user authors now in
      let each = bug_each tracked.user authors in
      stays_there mid new
      (ended_once old folder (side.RemoteBugs remote) folder side.Bugs of id AnyHead ref_of Step each tracked.bugs tracked.are_bugs ended.done ended.at ended.rest ended.are mid ended.mid new ended.before
      (bug_stop folder tracked.user authors now of id ended.at (side.RemoteBugs remote) why ended.mid new
      (named (side.RemoteBugs remote) ended.at
      (end_listed old folder (side.RemoteBugs remote) folder side.Bugs of id AnyHead ref_of Step each tracked.bugs tracked.are_bugs ended.done ended.at ended.rest ended.are)) ended.ended))

  then_stays : (mid new : History) → Out old mid → StaysSame folder of id mid new → Out old new
  then_stays mid new (inl first) stays = inl (stays_then folder of id old mid new first stays)
  then_stays mid new (inr set) stays = inr (set_by_then old folder (side.RemoteIdentities remote) folder side.Identities of id IsTracked old mid new set stays)

  whole : (new : History) (result : Result (List MergeLine) MergeStop) → MergeAnswers folder remote now old new result → Out old new
  whole new (Ok lines) is = then_stays is.mid new (turns_of_people is.tracked is.first.turns is.mid is.first.went) (turns_of_bugs is.tracked is.first.authors is.turns is.mid new is.then)
  whole new (Err why) (inl not) = inl (stays_none folder of id old new (not_begun_same folder remote now why old new not))
  whole new (Err why) (inr (inl (at, is, inl person))) = end_of_people at person.tracked new person.ended
  whole new (Err why) (inr (inl (at, is, inr bug))) =
      then_stays bug.mid new (turns_of_people bug.tracked bug.first.turns bug.mid bug.first.went) (end_of_bugs at bug.tracked bug.first.authors bug.mid new bug.ended)
  whole new (Err why) (inr (inr (is, between))) = turns_of_people between.tracked between.turns new between.went

  -- whatever a merge answers, the ref stays, or takes the tracked head
  pub merge_takes : IsId id → (new : History) (result : Result (List MergeLine) MergeStop) → MergeAnswers folder remote now old new result
      → StaysSame folder of id old new ⊎ TakesTracked folder remote of id old new
  merge_takes is_id new result answers = by (whole new result answers)
    where
      by : Out old new → StaysSame folder of id old new ⊎ TakesTracked folder remote of id old new
      by (inl stays) = inl stays
      by (inr set) =
          let at = placed_id side.Identities of set.entity.id id set.listed.0 is_id set.sets.place in
          inr (record {
            is_side = at.0;
            head = set.sets.head;
            is_tracked = ap (head_at (files_of old) folder (side.RemoteIdentities remote)) (sym at.1) ∙ set.listed.1 ∙ ap ref_with set.sets.is_head;
            once = set.sets.set;
          })

-- The turns of a merge bring to bugs what the folder had last seen of them, and no more.
use Rattle.std.proofs.Common.{◌≡◌, ◌⊎◌, ◌<◌, ◌^◌, inl, refl, sym, subst, arith, ℕ, suc, List, [], ◌∷◌, Contains, Result}
use Rattle.gb_text.specs.Digits.{IsId}
use Rattle.gb_text.specs.declared.id.Id.{Id}
use Rattle.gb_store.specs.Files.{History, files_of}
use Rattle.gb_store.specs.Moments.{IsMoment, Wrote}
use Rattle.gb_store.specs.Turns.{InTurn}
use Rattle.gb_store.proofs.MomentLemmas.{IsMoment-of_first}
use Rattle.remote_name.specs.declared.remote.RemoteName.{RemoteName}
use Rattle.repo_state.specs.Sides.{head_at}
use Rattle.repo_state.specs.Sound.{IsSound}
use Rattle.repo_state.specs.declared.refs.EntityRef.{EntityRef}
use Rattle.repo_state.specs.declared.side.Side.TheVariants as side
use Rattle.repo_state.proofs.FoundLemmas.{IsLocal-user}
use Rattle.repo_writes.specs.Kinds.{IsWrite}
use Rattle.repo_writes.proofs.SoundLemmas.{keeps_parts, keeps_sound}
use Rattle.merge_steps.specs.Merging.{MergeTurn, MergesBug, MergesPerson}
use Rattle.merge_steps.specs.Turns.{MergeAnswers, PeopleMerged, Tracked}
use Rattle.merge_steps.specs.declared.line.MergeLine.{MergeLine}
use Rattle.merge_steps.specs.declared.stop.MergeStop.{MergeStop}
use Rattle.merge_steps.proofs.MergeWriteLemmas.{merge_wrote}
use Rattle.merge_steps.proofs.TouchLemmas.{bug_touches, person_touches}
use Rattle.merge_steps.proofs.TurnOfLemmas.{people_stay, turns_grew}
use Rattle.ref_moments.specs.Leads.{LeadsOn}
use Rattle.ref_moments.proofs.LeadLemmas.{kinds_lead_on}
use Rattle.ref_moments.proofs.ListedLemmas.{IsListed, listed_name}
use Rattle.ref_moments.proofs.MergeLemmas.{AnyHead, bug_once}
use Rattle.ref_moments.proofs.OnceLemmas.{last_moment}
use Rattle.ref_moments.proofs.TurnLemmas.{Once}
use Rattle.operation_origins.proofs.StopLemmas.{grew_before, had_so, wrote_first}
use Rattle.operation_origins.proofs.TurnLemmas.{IsFromBoth, JoinsHeads, turn_from, turn_joins}

module _ (folder : List ℕ) (remote : RemoteName) (now : ℕ) (moment : now < 2 ^ 64) (old : History) (sound : IsSound folder (files_of old)) where
  -- a merge of the folder answers
  abbrev pub Answers : History → Result (List MergeLine) MergeStop → Type 0
  Answers end result = MergeAnswers folder remote now old end result

  -- what the folder has of bugs, it had or had last seen
  abbrev pub FromBoth : History → Type 0
  FromBoth late = IsFromBoth folder remote old late

  -- no write
  pub none_at : (one : History) → IsMoment one one one
  none_at one = record { later = []; done = []; before = refl; after = refl }

  -- the turns of bugs that are listed, in a call that wrote by kinds
  module _ (end : History) (wrote : Wrote (IsWrite folder) old end) where
    -- objects are only added, and the folder is sound at each moment
    leads : LeadsOn folder old end
    leads = kinds_lead_on folder old end wrote

    sound_at : (early : History) → IsMoment old end early → IsSound folder (files_of early)
    sound_at early at = (keeps_sound folder old end (keeps_parts folder old end wrote) sound).each early at

    -- what the refs of bugs keep, they have from both
    stays_from : (late : History) → IsMoment old end late → ((id : Id) → head_at (files_of late) folder side.Bugs id ≡ head_at (files_of old) folder side.Bugs id) → FromBoth late
    stays_from late at stays id is_id placed has = inl (had_so folder (files_of old) (files_of late) (grew_before folder old end late leads at) side.Bugs id placed sound is_id (stays id) has)

    -- one more step that joins, or writes nothing
    pub step_from : (early late : History) → IsMoment old early old → IsMoment early late early → IsMoment late end late → FromBoth early → (entity : EntityRef) → IsListed old folder (side.RemoteBugs remote) entity
        → ((id : Id) → Once folder side.Bugs side.Bugs id AnyHead entity early late) → (late ≡ early) ⊎ JoinsHeads folder entity early late → FromBoth late
    step_from early late came grew goes from entity listed once joins =
        turn_from folder remote old sound early late (grew_before folder old end early leads at_early) (leads early late at_early at_late).objects (sound_at early at_early) from entity listed once joins
      where
        at_early : IsMoment old end early
        at_early = IsMoment-of_first old early end early (last_moment old early came) (IsMoment-of_first early late end early grew goes)

        at_late : IsMoment early end late
        at_late = IsMoment-of_first early late end late (last_moment early late grew) goes

    module _ (user : Id) (authors : List Id) (is_user : IsId user) where
      abbrev Step : MergeTurn → History → History → Type 0
      Step = MergesBug folder user authors now

      -- one turn after another
      turns_from : (turns : List MergeTurn) → ((turn : MergeTurn) → Contains turns turn → IsListed old folder (side.RemoteBugs remote) turn.entity) → (early late : History) → InTurn Step turns early late
          → IsMoment old early old → IsMoment late end late → FromBoth early → FromBoth late
      turns_from [] listed early late same came goes from = subst FromBoth (sym same) from
      turns_from (turn ∷ turns) listed early late (mid, step, rest) came goes from =
          turns_from turns (λ other c. listed other (suc c.0, omega (arith, c.1), c.2)) mid late rest (IsMoment-of_first old early mid old came grew) goes
          (step_from early mid came grew (IsMoment-of_first mid late end mid (turns_grew folder side.Bugs Step (bug_touches folder user authors now) turns mid late rest) goes) from turn.entity here
          (λ id. bug_once folder user authors now side.Bugs id turn.entity turn.outcome early mid (listed_name old folder (side.RemoteBugs remote) turn.entity here) step)
          (turn_joins folder user authors now is_user moment turn early mid step))
        where
          here : IsListed old folder (side.RemoteBugs remote) turn.entity
          here = listed turn (0, omega arith, refl)

          grew : IsMoment early mid early
          grew = wrote_first early mid (bug_touches folder user authors now turn early mid step)

  -- ---- a whole merge

  -- the writes that were cut off, made to the end: a merge that answers so, and has from both what its refs have
  pub record Whole (end : History) : Type 0 where
    pub full : History
    pub result : Result (List MergeLine) MergeStop
    pub answers : Answers full result
    pub stop : IsMoment old full end
    pub from : FromBoth full

  -- what a merge wrote
  pub wrote_of : (end : History) (result : Result (List MergeLine) MergeStop) → Answers end result → Wrote (IsWrite folder) old end
  wrote_of end result answers = merge_wrote folder remote now old end result moment answers

  -- nothing was cut off
  pub as_it_is : (end : History) (result : Result (List MergeLine) MergeStop) → Answers end result → FromBoth end → Whole end
  as_it_is end result answers from = record {
    full = end;
    result = result;
    answers = answers;
    stop = last_moment old end (wrote_first old end (wrote_of end result answers));
    from = from;
  }

  -- the refs of bugs stay
  pub all_stay : (end : History) (result : Result (List MergeLine) MergeStop) → Answers end result → ((id : Id) → head_at (files_of end) folder side.Bugs id ≡ head_at (files_of old) folder side.Bugs id) → Whole end
  all_stay end result answers stays =
      let wrote = wrote_of end result answers in
      as_it_is end result answers (stays_from end wrote end (last_moment old end (wrote_first old end wrote)) stays)

  -- the turns of identities leave them
  pub people_leave : (turns : List MergeTurn) (mid : History) → InTurn (MergesPerson folder) turns old mid → (id : Id) → head_at (files_of mid) folder side.Bugs id ≡ head_at (files_of old) folder side.Bugs id
  people_leave turns mid went id = people_stay folder remote now old mid side.Bugs (λ e. cc e) id turns old mid went

  -- and only add writes
  pub people_grew : (turns : List MergeTurn) (mid : History) → InTurn (MergesPerson folder) turns old mid → IsMoment old mid old
  people_grew turns mid went = turns_grew folder side.Identities (MergesPerson folder) (person_touches folder) turns old mid went

  module _ (tracked : Tracked folder remote now old) (mid : History) (first : PeopleMerged folder remote now tracked.people old mid) where
    abbrev Turn : MergeTurn → History → History → Type 0
    Turn = MergesBug folder tracked.user first.authors now

    -- the user has an id
    pub user_id : IsId tracked.user
    user_id = (IsLocal-user (files_of old) folder tracked.user tracked.is_user).is_id

    -- so the turns of bugs behind them have it from both
    pub bugs_from : (turns : List MergeTurn) (late end : History) → Wrote (IsWrite folder) old end → ((turn : MergeTurn) → Contains turns turn → Contains tracked.bugs turn.entity) → InTurn Turn turns mid late
        → IsMoment late end late → FromBoth late
    bugs_from turns late end wrote listed went goes =
        let came = people_grew first.turns mid first.went.each in
        let on = turns_grew folder side.Bugs Turn (bug_touches folder tracked.user first.authors now) turns mid late went in
        turns_from end wrote tracked.user first.authors user_id turns (λ turn c. (tracked.are_bugs.members turn.entity).0 (listed turn c)) mid late went came goes
        (stays_from end wrote mid (IsMoment-of_first old mid end mid (last_moment old mid came) (IsMoment-of_first mid late end mid on goes)) (people_leave first.turns mid first.went.each))

-- A merge brings to a bug what the folder had last seen of it, and no more, also where it was cut off.
use Rattle.std.proofs.Common.{◌≡◌, ◌<◌, ◌^◌, inl, inr, refl, sym, ◌∙◌, ap, subst, ℕ, List, [], ◌∷◌, ◌++◌, reverse, Contains, Result, Ok, Err}
use Rattle.std.proofs.lemmas.List.{append-nil}
use Rattle.std.proofs.lemmas.List.Elements.{Contains-append_left, Contains-append_right}
use Rattle.gb_text.specs.Digits.{IsId}
use Rattle.gb_text.specs.declared.id.Id.{Id}
use Rattle.gb_store.specs.Files.{History, files_of}
use Rattle.gb_store.specs.Moments.{IsMoment, Wrote}
use Rattle.gb_store.specs.Turns.{InTurn}
use Rattle.gb_store.specs.declared.store.Change.{Change}
use Rattle.gb_store.proofs.MomentLemmas.{IsMoment-of_first, IsMoment-of_second, WroteSome-back}
use Rattle.object_batch.proofs.ClashLemmas.{Contains-first}
use Rattle.bug_ops.specs.declared.op.BugOp.{BugOp}
use Rattle.dag_entity.specs.declared.entity.Placed.{Placed}
use Rattle.remote_name.specs.declared.remote.RemoteName.{RemoteName}
use Rattle.repo_state.specs.Sides.{head_at}
use Rattle.repo_state.specs.Sound.{IsSound}
use Rattle.repo_state.specs.declared.refs.EntityRef.{EntityRef}
use Rattle.repo_state.specs.declared.side.Side.TheVariants as side
use Rattle.repo_state.proofs.KindLemmas.{head_at-other_side}
use Rattle.repo_state.proofs.ListingLemmas.{Contains-map}
use Rattle.repo_writes.specs.Kinds.{IsWrite}
use Rattle.merge_steps.specs.Left.{IsJoinOf}
use Rattle.merge_steps.specs.Merging.{BugStops, MergeTurn, MergesBug, WasCut, merged_writes}
use Rattle.merge_steps.specs.Stops.{stop_of_turn}
use Rattle.merge_steps.specs.Turns.{EndedAtBug, PeopleMerged, Tracked, entities_of}
use Rattle.merge_steps.specs.declared.line.MergeLine.{MergeLine}
use Rattle.merge_steps.specs.declared.stop.MergeStop.{MergeStop}
use Rattle.merge_steps.specs.declared.stop.TurnStop.{TurnStop}
use Rattle.merge_steps.specs.declared.stop.TurnStop.TheVariants as stop
use Rattle.merge_steps.proofs.MergeWriteLemmas.{not_begun_same}
use Rattle.merge_steps.proofs.TouchLemmas.{bug_touches, person_stop_touches, touch_leaves}
use Rattle.merge_steps.proofs.TurnOfLemmas.{turns_grew}
use Rattle.ref_moments.specs.Once.{ChangesOnce}
use Rattle.ref_moments.proofs.LeadLemmas.{kinds_lead_on}
use Rattle.ref_moments.proofs.ListedLemmas.{IsListed, listed_name}
use Rattle.ref_moments.proofs.MergeLemmas.{bug_stop, merge_once}
use Rattle.ref_moments.proofs.MomentLemmas.{old_or_new}
use Rattle.full_exchanges.specs.Having.{ACommit, Has}
use Rattle.operation_origins.proofs.StopLemmas.{moment_then, old_or_whole, some_moment}
use Rattle.operation_origins.proofs.TurnLemmas.{HadOrSeen, gets_joins}
use Rattle.operation_origins.proofs.WholeLemmas.{Answers, FromBoth, Whole, all_stay, as_it_is, bugs_from, none_at, people_grew, people_leave, step_from, user_id, wrote_of}

module _ (folder : List ℕ) (remote : RemoteName) (now : ℕ) (moment : now < 2 ^ 64) (old : History) (sound : IsSound folder (files_of old)) where
  -- the end at a bug
  module _ (why : MergeStop) (at : TurnStop) (is : why ≡ stop_of_turn at) (tracked : Tracked folder remote now old) (mid : History) (first : PeopleMerged folder remote now tracked.people old mid)
      (done : List MergeTurn) (entity : EntityRef) (rest : List EntityRef) (are : tracked.bugs ≡ entities_of done ++ entity ∷ rest) (early : History)
      (before : InTurn (MergesBug folder tracked.user first.authors now) done mid early) where
    -- where the call ended, at that bug
    abbrev Stops : History → Type 0
    Stops end = BugStops folder tracked.user first.authors now (side.RemoteBugs remote) at entity early end

    -- so a merge answers
    answers_so : (end : History) → Stops end → Answers folder remote now moment old sound end (Err why)
    answers_so end stops =
        inr (inl (
          at,
          is,
          inr (record {
            tracked = tracked;
            mid = mid;
            first = first;
            ended = record { done = done; at = entity; rest = rest; are = are; mid = early; before = before; ended = stops };
          }),
        ))

    -- the tracking ref of the bug was listed
    here : IsListed old folder (side.RemoteBugs remote) entity
    here = (tracked.are_bugs.members entity).0 (subst (λ (es : List EntityRef). Contains es entity) (sym are) (Contains-append_right (entities_of done) (entity ∷ rest) entity (Contains-first entity rest)))

    -- what the turns before it have
    before_from : (end : History) → Wrote (IsWrite folder) old end → IsMoment early end early → FromBoth folder remote now moment old sound early
    before_from end wrote goes =
        bugs_from folder remote now moment old sound tracked mid first done early end wrote
        (λ turn c. subst (λ (es : List EntityRef). Contains es turn.entity) (sym are) (Contains-append_left (entities_of done) (entity ∷ rest) turn.entity (Contains-map (λ (t : MergeTurn). t.entity) done turn c))) before goes

    -- nothing was written there
    same_whole : (end : History) → Stops end → end ≡ early → Whole folder remote now moment old sound end
    same_whole end stops same =
        as_it_is folder remote now moment old sound end (Err why) (answers_so end stops)
        (subst (FromBoth folder remote now moment old sound) (sym same) (before_from end (wrote_of folder remote now moment old sound end (Err why) (answers_so end stops)) (record { later = []; done = []; before = refl; after = same })))

    -- the first of its writes were made
    cut_whole : (end : History) → (cut : WasCut folder tracked.user first.authors now entity early end)
        → ((late : History) → WasCut folder tracked.user first.authors now entity early late → Stops late) → Whole folder remote now moment old sound end
    cut_whole end cut stops = record {
      full = full;
      result = Err why;
      answers = answers;
      stop = IsMoment-of_second old early full end came cut_at;
      from = step_from folder remote now moment old sound full wrote early full came (record { later = reverse writes; done = []; before = refl; after = refl }) (none_at folder remote now moment old sound full) (before_from full wrote (record { later = reverse writes; done = []; before = refl; after = refl })) entity here
          (λ id. bug_stop folder tracked.user first.authors now side.Bugs id entity (side.RemoteBugs remote) at early full (listed_name old folder (side.RemoteBugs remote) entity here) (stops full cut_full))
          (inr (record { local = cut.local; is_local = cut.is_local; tracked = cut.tracked; is_tracked = cut.is_tracked; joins = joins }));
    }
      where
        writes : List Change
        writes = merged_writes folder entity.id cut.head cut.edit cut.create cut.texts (files_of early)

        full : History
        full = reverse writes ++ early

        cut_full : WasCut folder tracked.user first.authors now entity early full
        cut_full = record {
          tracked = cut.tracked;
          is_tracked = cut.is_tracked;
          local = cut.local;
          is_local = cut.is_local;
          word = cut.word;
          head = cut.head;
          is_head = cut.is_head;
          is_new = cut.is_new;
          edit = cut.edit;
          create = cut.create;
          texts = cut.texts;
          plan = cut.plan;
          free = cut.free;
          wrote = WroteSome-back writes early full writes [] (sym (append-nil writes)) refl;
        }

        answers : Answers folder remote now moment old sound full (Err why)
        answers = answers_so full (stops full cut_full)

        wrote : Wrote (IsWrite folder) old full
        wrote = wrote_of folder remote now moment old sound full (Err why) answers

        came : IsMoment old early old
        came =
            IsMoment-of_first old mid early old (people_grew folder remote now moment old sound first.turns mid first.went.each)
            (turns_grew folder side.Bugs (MergesBug folder tracked.user first.authors now) (bug_touches folder tracked.user first.authors now) done mid early before)

        cut_at : IsMoment early full end
        cut_at = some_moment writes early end cut.wrote

        joins : IsJoinOf folder entity.id cut.local cut.tracked early full
        joins =
            gets_joins folder tracked.user first.authors now (user_id folder remote now moment old sound tracked mid first) moment entity.id cut.local cut.tracked cut.word cut.head early full cut.is_local cut.is_head cut.is_new
            (record { edit = cut.edit; create = cut.create; texts = cut.texts; plan = cut.plan; free = cut.free; wrote = refl })

  -- whatever ended it there
  bug_end : (why : MergeStop) (at : TurnStop) → why ≡ stop_of_turn at → (end : History) → EndedAtBug folder remote now at old end → Whole folder remote now moment old sound end
  bug_end why stop.Memory is end ended =
      let e = ended.ended in
      elim e.ended [
        | inl same ↦ same_whole why stop.Memory is ended.tracked ended.mid ended.first e.done e.at e.rest e.are e.mid e.before end (inl same) same
        | inr cut ↦ cut_whole why stop.Memory is ended.tracked ended.mid ended.first e.done e.at e.rest e.are e.mid e.before end cut (λ late one. inr one)
      ]
  bug_end why stop.Disk is end ended =
      let e = ended.ended in
      elim e.ended [
        | inl same ↦ same_whole why stop.Disk is ended.tracked ended.mid ended.first e.done e.at e.rest e.are e.mid e.before end (inl same) same
        | inr cut ↦ cut_whole why stop.Disk is ended.tracked ended.mid ended.first e.done e.at e.rest e.are e.mid e.before end cut (λ late one. inr one)
      ]
  bug_end why (stop.Damaged path) is end ended =
      let e = ended.ended in
      same_whole why (stop.Damaged path) is ended.tracked ended.mid ended.first e.done e.at e.rest e.are e.mid e.before end e.ended e.ended.1
  bug_end why (stop.Taken name) is end ended =
      let e = ended.ended in
      same_whole why (stop.Taken name) is ended.tracked ended.mid ended.first e.done e.at e.rest e.are e.mid e.before end e.ended e.ended.same

  -- whatever a merge answers
  whole : (end : History) (result : Result (List MergeLine) MergeStop) → Answers folder remote now moment old sound end result → Whole folder remote now moment old sound end
  whole end (Ok lines) is =
      as_it_is folder remote now moment old sound end (Ok lines) is
      (bugs_from folder remote now moment old sound is.tracked is.mid is.first is.turns end end (wrote_of folder remote now moment old sound end (Ok lines) is)
      (λ turn c. subst (λ (es : List EntityRef). Contains es turn.entity) is.then.are (Contains-map (λ (t : MergeTurn). t.entity) is.turns turn c)) is.then.each (none_at folder remote now moment old sound end))
  whole end (Err why) (inl not) = all_stay folder remote now moment old sound end (Err why) (inl not) (λ id. ap (λ (h : History). head_at (files_of h) folder side.Bugs id) (not_begun_same folder remote now why old end not))
  whole end (Err why) (inr (inl (at, is, inl person))) =
      let e = person.ended in
      all_stay folder remote now moment old sound end (Err why) (inr (inl (at, is, inl person)))
      (λ id. touch_leaves folder side.Identities e.at.id side.Bugs id (λ name files. head_at-other_side files folder side.Identities side.Bugs e.at.id id name (λ same. cc same)) e.mid end
      (person_stop_touches folder (side.RemoteIdentities remote) at e.at e.mid end e.ended) ∙ people_leave folder remote now moment old sound e.done e.mid e.before id)
  whole end (Err why) (inr (inl (at, is, inr bug))) = bug_end why at is end bug
  whole end (Err why) (inr (inr (is, between))) = all_stay folder remote now moment old sound end (Err why) (inr (inr (is, between))) (people_leave folder remote now moment old sound between.turns end between.went.each)

  -- what the folder has of a bug where a merge stopped, it had or had last seen at the remote
  pub merge_brings : (end : History) (result : Result (List MergeLine) MergeStop) → Answers folder remote now moment old sound end result → (new : History) → IsMoment old end new → (id : Id) → IsId id → (placed : Placed BugOp)
      → Has (files_of new) folder side.Bugs id (ACommit placed) → HadOrSeen folder remote old id placed
  merge_brings end result answers new stop id is_id placed has =
      elim (old_or_whole folder old w.full new (kinds_lead_on folder old w.full (wrote_of folder remote now moment old sound w.full w.result w.answers)) at side.Bugs id placed sound is_id
      ((old_or_new folder side.Bugs id old w.full once).each new at) has) [
        | inl mine ↦ inl mine
        | inr all ↦ w.from id is_id placed all
      ]
    where
      w : Whole folder remote now moment old sound end
      w = whole end result answers

      at : IsMoment old w.full new
      at = IsMoment-of_first old end w.full new stop (moment_then old w.full end w.stop)

      once : ChangesOnce folder side.Bugs id old w.full
      once = elim (merge_once folder remote now old side.Bugs id is_id w.full w.result w.answers) [ inl stays ↦ inl stays | inr set ↦ inr (set.head, set.once) ]

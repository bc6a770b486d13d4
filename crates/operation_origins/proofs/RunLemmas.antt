-- A run brings to the bugs of folders what one of them had or had last seen, and what its own edit adds.
use Rattle.std.proofs.Common.{◌≡◌, ◌⊎◌, inl, inr, refl, sym, ◌∙◌, ap, subst, ℕ, true, IsTrue, List, Contains, Option, Some, None, Result, Ok, Err}
use Rattle.gb_text.specs.Digits.{IsId}
use Rattle.gb_text.specs.Overlap.{Overlap}
use Rattle.gb_text.specs.declared.id.Id.{Id}
use Rattle.gb_store.specs.Files.{History, files_of}
use Rattle.gb_store.specs.Moments.{IsMoment, WroteBy}
use Rattle.object_store.specs.Growth.{OnlyGrew}
use Rattle.object_store.specs.Held.{objects_in}
use Rattle.object_store.proofs.GrowthLemmas.{text_stays}
use Rattle.bug_ops.specs.declared.op.BugOp.{BugOp}
use Rattle.dag_entity.specs.declared.entity.Placed.{Placed}
use Rattle.remote_name.specs.declared.remote.RemoteName.{RemoteName}
use Rattle.repo_state.specs.Sides.{head_at}
use Rattle.repo_state.specs.declared.side.Side.{Side}
use Rattle.repo_state.specs.declared.side.Side.TheVariants as side
use Rattle.repo_steps.specs.Stops.{stop_of_read}
use Rattle.repo_steps.specs.declared.refusal.Stop.{Stop}
use Rattle.sync_steps.specs.Fetching.{FetchAnswers}
use Rattle.sync_steps.specs.Pushing.{PushAnswers}
use Rattle.merge_steps.specs.Pulling.{PullAnswers}
use Rattle.merge_steps.specs.Turns.{MergeAnswers}
use Rattle.words.specs.Words.{asked_of}
use Rattle.words.specs.declared.edit.Edit.{Edit as Edits}
use Rattle.words.specs.declared.pair.FolderPair.{FolderPair}
use Rattle.words.specs.declared.words.Asked.{Asked}
use Rattle.words.specs.declared.words.Asked.TheVariants as asked
use Rattle.words.specs.declared.words.Command.{Command}
use Rattle.words.specs.declared.words.Command.TheVariants.{Edit, Log, PackRefs, Show, Users}
use Rattle.words.specs.declared.words.PeerCommand.{PeerCommand}
use Rattle.words.specs.declared.words.PeerCommand.TheVariants.{Fetch, Pull, Push}
use Rattle.words.proofs.PairLemmas.{apart_of}
use Rattle.bug_run.specs.Answer.{Answer}
use Rattle.bug_run.specs.Exchanges.{ExchangeAnswers, answer_of, answer_of_merge, answer_of_pull, stop_of_merge, written_by}
use Rattle.bug_run.specs.Run.{AskedAnswers, AskedWrites, Call, CommandAnswers, EditTells, call_of, env_at}
use Rattle.bug_run.specs.Runs.{AreAllSound, AreApart, IsRun, StaysAmong, nothing, one_more}
use Rattle.bug_run.specs.declared.status.Status.{Status}
use Rattle.bug_run.proofs.ExchangeWriteLemmas.{in_time}
use Rattle.bug_run.proofs.PackLemmas.{pack_wrote}
use Rattle.bug_run.proofs.RunLemmas.{run_wrote}
use Rattle.bug_run.proofs.RunsLemmas.{runs_keep_sound, runs_lose_nothing}
use Rattle.ref_moments.proofs.ApartLemmas.{files_stay, pack_stays, rows_stay}
use Rattle.ref_moments.proofs.OnceLemmas.{stays_none}
use Rattle.run_moments.specs.Places.{written_in}
use Rattle.run_moments.proofs.OnceLemmas.{among_is}
use Rattle.full_exchanges.specs.Having.{ACommit, Has, HaveOneTextEach}
use Rattle.full_exchanges.proofs.HasLemmas.{has_over}
use Rattle.full_exchanges.proofs.OneTextLemmas.{HaveOneText}
use Rattle.exchange_runs.specs.Takes.{TakesAmong, TakesFrom}
use Rattle.exchange_runs.proofs.SeenLemmas.{run_leaves}
use Rattle.operation_origins.specs.Origins.{IsMade, IsOfBugs, IsThere, WasMade}
use Rattle.operation_origins.proofs.AddedLemmas.{HadOrAdded}
use Rattle.operation_origins.proofs.ApartLemmas.{asked_apart, told_of}
use Rattle.operation_origins.proofs.EditLemmas.{edit_brings}
use Rattle.operation_origins.proofs.MergeLemmas.{merge_brings}
use Rattle.operation_origins.proofs.PullLemmas.{local_stays, pull_brings, push_brings}
use Rattle.operation_origins.proofs.StopLemmas.{had_so}

module _ (folders : List (List ℕ)) (apart : AreApart folders) (old new : History) (sound : AreAllSound folders (files_of old)) (also : AreAllSound folders (files_of new)) (one_text : HaveOneTextEach (files_of new) folders)
    (kept : (folder : List ℕ) → Contains folders folder → OnlyGrew (objects_in (files_of old) folder) (objects_in (files_of new) folder)) (id : Id) (is_id : IsId id) (placed : Placed BugOp) where
  -- the commit was there before
  abbrev Was : Type 0
  Was = IsThere (files_of old) folders id placed

  -- a folder has it now
  abbrev Now : List ℕ → Side → Type 0
  Now folder of = Has (files_of new) folder of id (ACommit placed)

  -- by a ref of a bug, or one of a remote's
  was_own : (folder : List ℕ) → Contains folders folder → Has (files_of old) folder side.Bugs id (ACommit placed) → Was
  was_own folder is has = record { folder = folder; is = is; of = side.Bugs; of_bugs = tt; has = has }

  was_seen : (folder : List ℕ) (remote : RemoteName) → Contains folders folder → Has (files_of old) folder (side.RemoteBugs remote) id (ACommit placed) → Was
  was_seen folder remote is has = record { folder = folder; is = is; of = side.RemoteBugs remote; of_bugs = tt; has = has }

  -- a ref that stays has what it had
  stays : (folder : List ℕ) (of : Side) → IsOfBugs of → Contains folders folder → head_at (files_of new) folder of id ≡ head_at (files_of old) folder of id → Now folder of → Was
  stays folder of of_bugs is same has =
      record { folder = folder; is = is; of = of; of_bugs = of_bugs; has = had_so folder (files_of old) (files_of new) (kept folder is) of id placed (sound folder is) is_id same has }

  -- what one folder has now, and another had before, is of one text under each name
  alike : (one two : List ℕ) → Contains folders one → Contains folders two → HaveOneText (objects_in (files_of new) one) (objects_in (files_of old) two)
  alike one two is_one is_two name text other here there =
      one_text one two name text other is_one is_two here (text_stays (objects_in (files_of old) two) (objects_in (files_of new) two) (kept two is_two) name other there)

  -- ---- where a call of a run stopped

  module _ (call : Call) (end : History) (stop : IsMoment old end new) (before after : List ℕ) (answer : Status) (tells : IsTrue call.store_tells) where
    -- nothing was written
    by_same : (folder : List ℕ) → Contains folders folder → end ≡ old → Now folder side.Bugs → Was
    by_same folder is same = stays folder side.Bugs tt is ((stays_none folder side.Bugs id old end same).each new stop)

    -- it was there, or what was asked for made it
    abbrev Out : Asked → Type 0
    Out asks = Was ⊎ IsMade folders asks call.moment (files_of old) id placed

    module _ (place : List ℕ) (is : Contains folders place) where
      -- by an edit in the folder
      edited : (edit : Edits) (result : Result Answer Stop) → EditTells (env_at call.moment place) edit old end result → Now place side.Bugs → Out (asked.Request (record { folder = place; command = Edit edit }))
      edited edit result told has = elim (by result told) [
        | inl was ↦ inl (was_own place is was)
        | inr added ↦ inr (record { folder = place; is = is; edits = edit; asked_for = refl; addition = added.addition; adds = added.adds; of_bug = added.of_bug; commit = added.commit })
      ]
        where
          by : (result : Result Answer Stop) → EditTells (env_at call.moment place) edit old end result → HadOrAdded (env_at call.moment place) edit (files_of old) id placed
          by (Ok said) told = edit_brings (env_at call.moment place) edit old (sound place is) id is_id placed end (Ok told.0) told.1 new stop has
          by (Err s) told = edit_brings (env_at call.moment place) edit old (sound place is) id is_id placed end (Err s) told new stop has

      -- by a command there
      commanded : (command : Command) (result : Result Answer Stop) → CommandAnswers (env_at call.moment place) command old end result → Now place side.Bugs → Out (asked.Request (record { folder = place; command = command }))
      commanded Users result told has = inl (by_same place is told.1 has)
      commanded (Show bug) result told has = inl (by_same place is told.1 has)
      commanded (Log bug) result told has = inl (by_same place is told.1 has)
      commanded (Edit edit) result told has = edited edit result told has
      commanded PackRefs result told has = inl (stays place side.Bugs tt is ((pack_stays place side.Bugs id old end (pack_wrote place old end result told)).each new stop) has)

    -- by a command with a peer, in the folder in which it writes
    exchanged : (command : PeerCommand) (pair : FolderPair) (result : Result Answer Stop) → ExchangeAnswers command pair call.moment.now old end result
        → StaysAmong folders (asked.Exchange (record { pair = pair; command = command })) → TakesFrom folders command pair
        → Contains folders (written_by command pair) → Now (written_by command pair) side.Bugs → Was
    exchanged (Fetch remote) pair result told place takes is has =
        let given = told_of answer_of stop_of_read (FetchAnswers pair.own pair.peer remote old end) result told in
        stays pair.own side.Bugs tt is ((local_stays pair.own pair.peer (apart_of pair.own pair.peer pair.apart) old id is_id placed remote (sound pair.own is) end given.0 given.1).each new stop) has
    exchanged (Pull remote) pair result told place takes is has =
        let given = told_of answer_of_pull stop_of_merge (PullAnswers pair.own pair.peer remote call.moment.now old end) result told in
        elim (pull_brings pair.own pair.peer (apart_of pair.own pair.peer pair.apart) old id is_id placed remote (sound pair.own is) (sound pair.peer (takes is)) call.moment.now (in_time call.moment) new
        (alike pair.own pair.peer is (takes is)) end given.0 given.1 stop has) [
          | inl (inl mine) ↦ was_own pair.own is mine
          | inl (inr seen) ↦ was_seen pair.own remote is seen
          | inr there ↦ was_own pair.peer (takes is) there
        ]
    exchanged Push pair result told place takes is has =
        let given = told_of answer_of stop_of_read (PushAnswers pair.own pair.peer old end) result told in
        let own = place.1 refl is in
        elim (push_brings pair.own pair.peer (apart_of pair.own pair.peer pair.apart) old id is_id placed (sound pair.peer is) (sound pair.own own) end given.0 given.1 new stop (also pair.peer is) (alike pair.peer pair.own is own) has) [
          | inl there ↦ was_own pair.peer is there
          | inr mine ↦ was_own pair.own own mine
        ]

    -- in the folder in which is written
    in_place : (asks : Asked) → StaysAmong folders asks → TakesAmong folders asks → AskedAnswers asks call old end before after answer → (folder : List ℕ) → written_in asks ≡ Some folder
        → Contains folders folder → Now folder side.Bugs → Out asks
    in_place asked.Nothing place takes answers folder some is has = absurd (cc some)
    in_place (asked.Refused bad) place takes answers folder some is has = absurd (cc some)
    in_place (asked.Request request) place takes answers folder some is has =
        let same : request.folder ≡ folder = cc some in
        let here = subst (Contains folders) (sym same) is in
        let now = subst (λ (f : List ℕ). Now f side.Bugs) (sym same) has in
        elim (answers.1 tells) [
          | inl unbegun ↦ inl (by_same request.folder here unbegun.1 now)
          | inr begun ↦ commanded request.folder here request.command answers.0 begun.1 now
        ]
    in_place (asked.Exchange request) place takes answers folder some is has =
        let same : written_by request.command request.pair ≡ folder = cc some in
        let here = subst (Contains folders) (sym same) is in
        let now = subst (λ (f : List ℕ). Now f side.Bugs) (sym same) has in
        elim (answers.1 tells) [
          | inl unbegun ↦ inl (by_same (written_by request.command request.pair) here unbegun.1 now)
          | inr begun ↦ inl (exchanged request.command request.pair answers.0 begun.1 place takes here now)
        ]
    in_place (asked.Merge request) place takes answers folder some is has =
        let same : request.folder ≡ folder = cc some in
        let here = subst (Contains folders) (sym same) is in
        let now = subst (λ (f : List ℕ). Now f side.Bugs) (sym same) has in
        elim (answers.1 tells) [
          | inl unbegun ↦ inl (by_same request.folder here unbegun.1 now)
          | inr begun ↦
              let given = told_of answer_of_merge stop_of_merge (MergeAnswers request.folder request.remote call.moment.now old end) answers.0 begun.1 in
              elim (merge_brings request.folder request.remote call.moment.now (in_time call.moment) old (sound request.folder here) end given.0 given.1 new stop id is_id placed now) [
                | inl mine ↦ inl (was_own request.folder here mine)
                | inr seen ↦ inl (was_seen request.folder request.remote here seen)
              ]
        ]
    in_place (asked.List request) place takes answers folder some is has =
        let same : request.folder ≡ folder = cc some in
        let here = subst (Contains folders) (sym same) is in
        let now = subst (λ (f : List ℕ). Now f side.Bugs) (sym same) has in
        elim (answers.1 tells) [
          | inl unbegun ↦ inl (by_same request.folder here unbegun.1 now)
          | inr listed ↦ inl (stays request.folder side.Bugs tt here ((rows_stay request.folder side.Bugs id old end listed.1.1).each new stop) now)
        ]

    -- in each folder
    in_folder : (asks : Asked) → StaysAmong folders asks → TakesAmong folders asks → AskedAnswers asks call old end before after answer → WroteBy (AskedWrites asks call.moment) old end
        → (folder : List ℕ) → Contains folders folder → Now folder side.Bugs → Out asks
    in_folder asks place takes answers wrote folder is has = by (written_in asks) refl
      where
        far_off : ((other : List ℕ) → written_in asks ≡ Some other → Overlap folder other → ⊥) → Was
        far_off far = stays folder side.Bugs tt is ((files_stay (AskedWrites asks call.moment) folder side.Bugs id old end (asked_apart folder asks call.moment far old) wrote).each new stop) has

        by : (at : Option (List ℕ)) → written_in asks ≡ at → Out asks
        by None none = inl (far_off (λ other some overlap. cc (sym none ∙ some)))
        by (Some other) some = elim (among_is folders apart folder is asks place other some) [
          | inl same ↦ in_place asks place takes answers folder (some ∙ ap Some same) is has
          | inr far ↦ inl (far_off (λ one also_some overlap. let same : other ≡ one = cc (sym some ∙ also_some) in far (subst (Overlap folder) (sym same) overlap)))
        ]

-- what folders have, or have last seen, of a bug where a run stopped, was there before, or its edit made it
pub run_origins : (folders : List (List ℕ)) → AreApart folders → (old new : History) (run : IsRun folders old new) → TakesAmong folders (asked_of run.words) → AreAllSound folders (files_of old)
    → HaveOneTextEach (files_of new) folders → (id : Id) → IsId id → (placed : Placed BugOp) → IsThere (files_of new) folders id placed
    → IsThere (files_of old) folders id placed ⊎ WasMade folders old new run id placed
run_origins folders apart old new run takes sound one_text id is_id placed there = by there.of there.of_bugs there.has
  where
    also : AreAllSound folders (files_of new)
    also = runs_keep_sound folders apart old new (one_more old new nothing run) sound

    kept : (folder : List ℕ) → Contains folders folder → OnlyGrew (objects_in (files_of old) folder) (objects_in (files_of new) folder)
    kept folder is = (runs_lose_nothing folders apart folder is old new (one_more old new nothing run)).objects

    call : Call
    call = call_of true run.sink_tells run.takes_memory (asked_of run.words) run.moment

    by : (of : Side) → IsOfBugs of → Has (files_of new) there.folder of id (ACommit placed) → IsThere (files_of old) folders id placed ⊎ WasMade folders old new run id placed
    by side.Identities none has = absurd none
    by (side.RemoteIdentities remote) none has = absurd none
    by side.Bugs of_bugs has =
        in_folder folders apart old new sound also one_text kept id is_id placed call run.end run.stop run.before run.after run.status refl (asked_of run.words) run.place takes run.answers
        (run_wrote call old run.end run.before run.after run.status refl run.answers) there.folder there.is has
    by (side.RemoteBugs remote) of_bugs has = elim (run_leaves folders apart there.folder there.is remote id is_id old new run takes) [
      | inl same ↦ inl (stays folders apart old new sound also one_text kept id is_id placed there.folder (side.RemoteBugs remote) tt there.is same has)
      | inr taken ↦ inl (was_own folders apart old new sound also one_text kept id is_id placed taken.peer taken.is
          (has_over (files_of new) (files_of old) there.folder taken.peer (side.RemoteBugs remote) side.Bugs id (ACommit placed) (also there.folder there.is) (sound taken.peer taken.is)
          (alike folders apart old new sound also one_text kept id is_id placed there.folder taken.peer there.is taken.is) is_id (taken.was ∙ sym taken.now) has))
    ]

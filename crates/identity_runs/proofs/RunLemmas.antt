-- Each head of an identity that a run leaves was there before, or the run makes or edits the identity.
use Rattle.std.proofs.Common.{◌≡◌, ◌⊎◌, inl, inr, refl, sym, ◌∙◌, ap, subst, ℕ, true, IsTrue, List, Contains, Option, Some, None, Result, Ok, Err}
use Rattle.gb_text.specs.Digits.{IsId}
use Rattle.gb_text.specs.Overlap.{Overlap}
use Rattle.gb_text.specs.declared.id.Id.{Id}
use Rattle.gb_text.specs.declared.id.Name.{Name}
use Rattle.gb_store.specs.Files.{History, files_of}
use Rattle.gb_store.specs.Moments.{IsMoment, WroteBy}
use Rattle.ref_store.specs.Refs.{Head}
use Rattle.repo_state.specs.Sides.{head_at}
use Rattle.repo_state.specs.declared.side.Side.{Side}
use Rattle.repo_state.specs.declared.side.Side.TheVariants as side
use Rattle.repo_steps.specs.Stops.{stop_of_read}
use Rattle.repo_steps.specs.declared.refusal.Stop.{Stop}
use Rattle.sync_steps.specs.Fetching.{FetchAnswers}
use Rattle.sync_steps.specs.Pushing.{PushAnswers}
use Rattle.merge_steps.specs.Pulling.{PullAnswers}
use Rattle.merge_steps.specs.Turns.{MergeAnswers}
use Rattle.words.specs.Words.{asked_of}
use Rattle.words.specs.declared.edit.Edit.{Edit as Edits}
use Rattle.words.specs.declared.edit.Edit.TheVariants as edit
use Rattle.words.specs.declared.pair.FolderPair.{FolderPair}
use Rattle.words.specs.declared.words.Asked.{Asked}
use Rattle.words.specs.declared.words.Asked.TheVariants as asked
use Rattle.words.specs.declared.words.Command.{Command}
use Rattle.words.specs.declared.words.Command.TheVariants.{Edit, Log, PackRefs, Show, Users}
use Rattle.words.specs.declared.words.PeerCommand.{PeerCommand}
use Rattle.words.specs.declared.words.PeerCommand.TheVariants.{Fetch, Pull, Push}
use Rattle.bug_run.specs.Answer.{Answer}
use Rattle.bug_run.specs.Exchanges.{ExchangeAnswers, answer_of, answer_of_merge, answer_of_pull, stop_of_merge, written_by}
use Rattle.bug_run.specs.Run.{AskedAnswers, AskedWrites, Call, CommandAnswers, EditTells, call_of, env_at}
use Rattle.bug_run.specs.Runs.{AreApart, IsRun, StaysAmong}
use Rattle.bug_run.specs.declared.status.Status.{Status}
use Rattle.bug_run.proofs.PackLemmas.{pack_wrote}
use Rattle.bug_run.proofs.RunLemmas.{run_wrote}
use Rattle.ref_moments.proofs.ApartLemmas.{files_stay, pack_stays, rows_stay}
use Rattle.ref_moments.proofs.OnceLemmas.{stays_none}
use Rattle.run_moments.specs.Places.{written_in}
use Rattle.run_moments.proofs.OnceLemmas.{among_is}
use Rattle.exchange_runs.specs.Takes.{TakesAmong, TakesFrom}
use Rattle.operation_origins.proofs.ApartLemmas.{asked_apart, told_of}
use Rattle.identity_runs.specs.Heads.{IsOfPeople, IsThere}
use Rattle.identity_runs.specs.Homes.{EditsPerson, MakesPerson}
use Rattle.identity_runs.proofs.EditLemmas.{Came, GivesHead, MakesNew, edit_came}
use Rattle.identity_runs.proofs.HeadLemmas.{fetch_was, merge_was, pull_was, push_was, same_was}

-- a run gave an identity this head in one of the folders, where it makes or edits the identity
pub record IsNewHead (folders : List (List ℕ)) (old new : History) (run : IsRun folders old new) (id : Id) (head : Name) : Type 0 where
  pub folder : List ℕ
  pub now : head_at (files_of new) folder side.Identities id ≡ Head head
  pub by : MakesPerson folders old new run id folder ⊎ EditsPerson folders old new run id folder

module _ (folders : List (List ℕ)) (apart : AreApart folders) (old new : History) (id : Id) (is_id : IsId id) where
  -- the head was there
  abbrev Was : Name → Type 0
  Was head = IsThere (files_of old) folders id head

  -- what is asked for is an edit in one of the folders, where the identity has this head, which makes or edits it
  record IsGiven (asks : Asked) (call : Call) (head : Name) : Type 0 where
    pub folder : List ℕ
    pub is : Contains folders folder
    pub edits : Edits
    pub asked_for : asks ≡ asked.Request (record { folder = folder; command = Edit edits })
    pub now : head_at (files_of new) folder side.Identities id ≡ Head head
    pub by : MakesNew (env_at call.moment folder) edits (files_of old) id ⊎ GivesHead (env_at call.moment folder) edits (files_of old) id head

  module _ (call : Call) (end : History) (stop : IsMoment old end new) (before after : List ℕ) (answer : Status) (tells : IsTrue call.store_tells) (of : Side) (people : IsOfPeople of) (head : Name) where
    abbrev Out : Asked → Type 0
    Out asks = Was head ⊎ IsGiven asks call head

    -- a folder has the head now
    abbrev Now : List ℕ → Type 0
    Now folder = head_at (files_of new) folder of id ≡ Head head

    -- nothing was written
    by_same : (folder : List ℕ) → Contains folders folder → end ≡ old → Now folder → Was head
    by_same folder is same now = same_was folders old id folder is of people end new (stays_none folder of id old end same) stop head now

    module _ (place : List ℕ) (is : Contains folders place) where
      -- by an edit in the folder
      edited : (edits : Edits) (result : Result Answer Stop) → EditTells (env_at call.moment place) edits old end result → Now place → Out (asked.Request (record { folder = place; command = Edit edits }))
      edited edits result told now = elim (came result told) [
        | inl was ↦ inl was
        | inr (local, by) ↦ inr (record {
          folder = place;
          is = is;
          edits = edits;
          asked_for = refl;
          now = subst (λ (s : Side). head_at (files_of new) place s id ≡ Head head) local now;
          by = by;
        })
      ]
        where
          came : (result : Result Answer Stop) → EditTells (env_at call.moment place) edits old end result → Came folders (env_at call.moment place) is old id is_id of people edits head
          came (Ok said) told = edit_came folders (env_at call.moment place) is old id is_id of people end new stop head now edits (Ok told.0) told.1
          came (Err s) told = edit_came folders (env_at call.moment place) is old id is_id of people end new stop head now edits (Err s) told

      -- by a command there
      commanded : (command : Command) (result : Result Answer Stop) → CommandAnswers (env_at call.moment place) command old end result → Now place → Out (asked.Request (record { folder = place; command = command }))
      commanded Users result told now = inl (by_same place is told.1 now)
      commanded (Show bug) result told now = inl (by_same place is told.1 now)
      commanded (Log bug) result told now = inl (by_same place is told.1 now)
      commanded (Edit edits) result told now = edited edits result told now
      commanded PackRefs result told now = inl (same_was folders old id place is of people end new (pack_stays place of id old end (pack_wrote place old end result told)) stop head now)

    -- by a command with a peer, in the folder in which it writes
    exchanged : (command : PeerCommand) (pair : FolderPair) (result : Result Answer Stop) → ExchangeAnswers command pair call.moment.now old end result
        → StaysAmong folders (asked.Exchange (record { pair = pair; command = command })) → TakesFrom folders command pair
        → Contains folders (written_by command pair) → Now (written_by command pair) → Was head
    exchanged (Fetch remote) pair result told place takes is now =
        let given = told_of answer_of stop_of_read (FetchAnswers pair.own pair.peer remote old end) result told in
        fetch_was folders old id is_id pair.own pair.peer is (takes is) remote end given.0 given.1 new stop of people head now
    exchanged (Pull remote) pair result told place takes is now =
        let given = told_of answer_of_pull stop_of_merge (PullAnswers pair.own pair.peer remote call.moment.now old end) result told in
        pull_was folders old id is_id pair.own pair.peer is (takes is) remote call.moment.now end given.0 given.1 new stop of people head now
    exchanged Push pair result told place takes is now =
        let given = told_of answer_of stop_of_read (PushAnswers pair.own pair.peer old end) result told in
        push_was folders old id is_id pair.own pair.peer (place.1 refl is) is end given.0 given.1 new stop of people head now

    -- in the folder in which is written
    in_place : (asks : Asked) → StaysAmong folders asks → TakesAmong folders asks → AskedAnswers asks call old end before after answer → (folder : List ℕ) → written_in asks ≡ Some folder
        → Contains folders folder → Now folder → Out asks
    in_place asked.Nothing place takes answers folder some is now = absurd (cc some)
    in_place (asked.Refused bad) place takes answers folder some is now = absurd (cc some)
    in_place (asked.Request request) place takes answers folder some is now =
        let same : request.folder ≡ folder = cc some in
        let here = subst (Contains folders) (sym same) is in
        let has = subst Now (sym same) now in
        elim (answers.1 tells) [
          | inl unbegun ↦ inl (by_same request.folder here unbegun.1 has)
          | inr begun ↦ commanded request.folder here request.command answers.0 begun.1 has
        ]
    in_place (asked.Exchange request) place takes answers folder some is now =
        let same : written_by request.command request.pair ≡ folder = cc some in
        let here = subst (Contains folders) (sym same) is in
        let has = subst Now (sym same) now in
        elim (answers.1 tells) [
          | inl unbegun ↦ inl (by_same (written_by request.command request.pair) here unbegun.1 has)
          | inr begun ↦ inl (exchanged request.command request.pair answers.0 begun.1 place takes here has)
        ]
    in_place (asked.Merge request) place takes answers folder some is now =
        let same : request.folder ≡ folder = cc some in
        let here = subst (Contains folders) (sym same) is in
        let has = subst Now (sym same) now in
        elim (answers.1 tells) [
          | inl unbegun ↦ inl (by_same request.folder here unbegun.1 has)
          | inr begun ↦
              let given = told_of answer_of_merge stop_of_merge (MergeAnswers request.folder request.remote call.moment.now old end) answers.0 begun.1 in
              inl (merge_was folders old id is_id request.folder here request.remote call.moment.now end given.0 given.1 new stop of people head has)
        ]
    in_place (asked.List request) place takes answers folder some is now =
        let same : request.folder ≡ folder = cc some in
        let here = subst (Contains folders) (sym same) is in
        let has = subst Now (sym same) now in
        elim (answers.1 tells) [
          | inl unbegun ↦ inl (by_same request.folder here unbegun.1 has)
          | inr listed ↦ inl (same_was folders old id request.folder here of people end new (rows_stay request.folder of id old end listed.1.1) stop head has)
        ]

    -- in each folder
    in_folder : (asks : Asked) → StaysAmong folders asks → TakesAmong folders asks → AskedAnswers asks call old end before after answer → WroteBy (AskedWrites asks call.moment) old end
        → (folder : List ℕ) → Contains folders folder → Now folder → Out asks
    in_folder asks place takes answers wrote folder is now = by (written_in asks) refl
      where
        far_off : ((other : List ℕ) → written_in asks ≡ Some other → Overlap folder other → ⊥) → Was head
        far_off far =
            same_was folders old id folder is of people end new (files_stay (AskedWrites asks call.moment) folder of id old end (asked_apart folder asks call.moment far old) wrote) stop head now

        by : (at : Option (List ℕ)) → written_in asks ≡ at → Out asks
        by None none = inl (far_off (λ other some overlap. cc (sym none ∙ some)))
        by (Some other) some = elim (among_is folders apart folder is asks place other some) [
          | inl same ↦ in_place asks place takes answers folder (some ∙ ap Some same) is now
          | inr far ↦ inl (far_off (λ one also_some overlap. let same : other ≡ one = cc (sym some ∙ also_some) in far (subst (Overlap folder) (sym same) overlap)))
        ]

  module _ (run : IsRun folders old new) (takes : TakesAmong folders (asked_of run.words)) (head : Name) where
    abbrev run_call : Call
    run_call = call_of true run.sink_tells run.takes_memory (asked_of run.words) run.moment

    -- what was given is of the run
    of_run : IsGiven (asked_of run.words) run_call head → IsNewHead folders old new run id head
    of_run given = record { folder = given.folder; now = given.now; by = by given.by }
      where
        asks : (edits : Edits) → given.edits ≡ edits → asked_of run.words ≡ asked.Request (record { folder = given.folder; command = Edit edits })
        asks edits same = given.asked_for ∙ ap (λ (e : Edits). asked.Request (record { folder = given.folder; command = Edit e })) same

        by : MakesNew (env_at run.moment given.folder) given.edits (files_of old) id ⊎ GivesHead (env_at run.moment given.folder) given.edits (files_of old) id head
            → MakesPerson folders old new run id given.folder ⊎ EditsPerson folders old new run id given.folder
        by (inl makes) = inl (record {
          is = given.is;
          name = makes.name;
          email = makes.email;
          asked_for = asks (edit.UserNew makes.name makes.email) makes.is;
          is_made = makes.is_made;
          was = makes.was;
          head = head;
          now = given.now;
        })
        by (inr gives) = inr (record {
          is = given.is;
          name = gives.name;
          email = gives.email;
          asked_for = asks (edit.UserEdit gives.name gives.email) gives.is;
          is_user = gives.is_user;
          before = gives.before;
          was = gives.was;
          head = head;
          now = given.now;
          differ = gives.differ;
        })

    pub run_heads : IsThere (files_of new) folders id head → IsThere (files_of old) folders id head ⊎ IsNewHead folders old new run id head
    run_heads there =
        elim (in_folder run_call run.end run.stop run.before run.after run.status refl there.of there.of_people head (asked_of run.words) run.place takes run.answers
        (run_wrote run_call old run.end run.before run.after run.status refl run.answers) there.folder there.is there.is_head) [
          | inl was ↦ inl was
          | inr given ↦ inr (of_run given)
        ]

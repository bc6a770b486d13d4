-- Where each user is set at home, each identity is edited at home: the user of a folder was made there.
use Rattle.std.proofs.Common.{◌≡◌, inl, inr, refl, sym, ◌∙◌, ap, subst, cond, ℕ, Bool, true, false, IsTrue, List, [], Contains, Option, Some, None, Result}
use Rattle.hex.specs.Hex.{encode_lower}
use Rattle.gb_text.specs.Digits.{IsId, id_of}
use Rattle.gb_text.proofs.DigitLemmas.{id_of-encode_lower}
use Rattle.gb_text.specs.Folder.{joined}
use Rattle.gb_text.specs.LineEnd.{line_of}
use Rattle.gb_text.specs.Overlap.{Overlap}
use Rattle.gb_text.specs.declared.id.Id.{Id}
use Rattle.gb_text.specs.declared.id.Name.{Name}
use Rattle.gb_text.specs.declared.ruled.Line.{Line}
use Rattle.gb_text.specs.declared.ruled.Title.{Title}
use Rattle.gb_store.specs.Files.{Files, History, files_of}
use Rattle.gb_store.specs.Moments.{IsMoment, WroteBy}
use Rattle.gb_store.specs.declared.store.Change.{Change}
use Rattle.gb_store.proofs.MomentLemmas.{AllMoments-from_WroteBy, Wrote-none, WroteBy-before}
use Rattle.object_store.specs.Held.{objects_in}
use Rattle.bug_edits.specs.declared.moment.Moment.{Moment}
use Rattle.identity.proofs.IdLemmas.{IsId-version_id}
use Rattle.ref_store.specs.Refs.{Absent, Bad, Head, Ref, is_there}
use Rattle.ref_store.proofs.RefLemmas.{line_of-more}
use Rattle.repo_state.specs.Sides.{has_ref, head_at}
use Rattle.repo_state.specs.Sound.{IsSound, IsSoundIdentity}
use Rattle.repo_state.specs.Sound as parts
use Rattle.repo_state.specs.Users.{BadUser, NoUser, User, id_line, local_user, user_at, user_of, user_place}
use Rattle.repo_state.specs.declared.side.Side.TheVariants as side
use Rattle.repo_steps.specs.PeopleDoings.{new_made, new_text}
use Rattle.repo_steps.specs.declared.refusal.Stop.{Stop}
use Rattle.merge_steps.specs.Pulling.{PullAnswers}
use Rattle.merge_steps.specs.Turns.{MergeAnswers}
use Rattle.words.specs.Words.{asked_of}
use Rattle.words.specs.declared.edit.Edit.{Edit as Edits}
use Rattle.words.specs.declared.edit.Edit.TheVariants as edit
use Rattle.words.specs.declared.pair.FolderPair.{FolderPair}
use Rattle.words.specs.declared.words.Asked.{Asked}
use Rattle.words.specs.declared.words.Asked.TheVariants as asked
use Rattle.words.specs.declared.words.Command.{Command}
use Rattle.words.specs.declared.words.Command.TheVariants.{Edit, Log, PackRefs, Show, Users}
use Rattle.words.specs.declared.words.PeerCommand.{PeerCommand}
use Rattle.words.specs.declared.words.PeerCommand.TheVariants.{Fetch, Pull, Push}
use Rattle.words.proofs.PairLemmas.{apart_of}
use Rattle.bug_run.specs.Answer.{Answer}
use Rattle.bug_run.specs.Exchanges.{ExchangeAnswers, ExchangeWrites, answer_of_merge, answer_of_pull, stop_of_merge, written_by}
use Rattle.bug_run.specs.Run.{AskedAnswers, AskedWrites, Call, CommandWrites, call_of, env_at}
use Rattle.bug_run.specs.Runs.{AreApart, IsRun, StaysAmong, nothing, one_more}
use Rattle.bug_run.specs.declared.status.Status.{Status}
use Rattle.bug_run.proofs.RunLemmas.{run_wrote}
use Rattle.bug_run.proofs.RunsLemmas.{runs_keep_sound}
use Rattle.run_moments.specs.Places.{written_in}
use Rattle.run_moments.proofs.OnceLemmas.{among_is}
use Rattle.exchange_runs.specs.Takes.{RunsAmong}
use Rattle.exchange_runs.specs.Takes as among
use Rattle.operation_origins.proofs.ApartLemmas.{asked_apart, told_of}
use Rattle.operation_origins.proofs.OnceLemmas.{before_sound}
use Rattle.identity_runs.specs.Homes.{AreEditedAtHome, AreSetAtHome, IsMadeIn, MakesPerson}
use Rattle.identity_runs.proofs.UserLemmas.{Keeps, UserCame, edit_user, fetched_keeps, kept, merge_keeps, pack_keeps, pull_keeps_user, push_keeps, rows_keep}

-- ---- one folder

-- the ref of an identity that stands in a sound folder reads
there_reads : (folder : List ℕ) (files : Files) → IsSound folder files → (id : Id) → IsId id → IsTrue (has_ref files folder side.Identities id) → (top : Name) × (head_at files folder side.Identities id ≡ Head top)
there_reads folder files sound id is_id stands = by (head_at files folder side.Identities id) refl
  where
    by : (ref : Ref) → head_at files folder side.Identities id ≡ ref → (top : Name) × (head_at files folder side.Identities id ≡ Head top)
    by Absent is = absurd (cc (subst (λ (r : Ref). IsTrue (is_there r)) is stands))
    by (Head top) is = (top, is)
    by Bad is = absurd (subst (IsSoundIdentity (objects_in files folder) id) is (sound parts.Identities id is_id))

-- the user file names an identity: what the user is
file_names : (files : Files) (folder : List ℕ) (id : Id) → IsId id → files (joined folder user_place) ≡ Some (id_line id) → user_at files folder ≡ local_user files folder (Some id)
file_names files folder id is_id is =
    ap (user_of files folder) is
    ∙ ap (λ (text : List ℕ). local_user files folder (id_of text)) (line_of-more (encode_lower id.bytes))
    ∙ ap (local_user files folder) (id_of-encode_lower id is_id)

-- so the user is this identity, whose ref stands
names_user : (files : Files) (folder : List ℕ) (made id : Id) → IsId made → files (joined folder user_place) ≡ Some (id_line made) → user_at files folder ≡ User id → (made ≡ id) × IsTrue (has_ref files folder side.Identities made)
names_user files folder made id is_id is user = decide (has_ref files folder side.Identities made) refl
  where
    is_it : cond (has_ref files folder side.Identities made) (User made) BadUser ≡ User id
    is_it = sym (file_names files folder made is_id is) ∙ user

    decide : (b : Bool) → has_ref files folder side.Identities made ≡ b → (made ≡ id) × IsTrue (has_ref files folder side.Identities made)
    decide true h = let same : User made ≡ User id = sym (ap (λ (b : Bool). cond b (User made) BadUser) h) ∙ is_it in (cc same, h)
    decide false h = let bad : BadUser ≡ User id = sym (ap (λ (b : Bool). cond b (User made) BadUser) h) ∙ is_it in absurd (cc bad)

-- where the user file is as it was in a sound folder, who is the user was the user
same_user : (folder : List ℕ) (old new : Files) → IsSound folder old → new (joined folder user_place) ≡ old (joined folder user_place) → (id : Id) → user_at new folder ≡ User id → user_at old folder ≡ User id
same_user folder old new sound same id is = at_text (old (joined folder user_place)) (sound parts.User) (sym (ap (user_of new folder) same) ∙ is)
  where
    at_ref : (other : Id) (here there : Bool) → has_ref old folder side.Identities other ≡ here → has_ref new folder side.Identities other ≡ there → (local_user old folder (Some other) ≡ BadUser → ⊥)
        → local_user new folder (Some other) ≡ User id → local_user old folder (Some other) ≡ User id
    at_ref other here false h t sound is = let bad : BadUser ≡ User id = sym (ap (λ (b : Bool). cond b (User other) BadUser) t) ∙ is in absurd (cc bad)
    at_ref other false true h t sound is = absurd (sound (ap (λ (b : Bool). cond b (User other) BadUser) h))
    at_ref other true true h t sound is = ap (λ (b : Bool). cond b (User other) BadUser) h ∙ sym (ap (λ (b : Bool). cond b (User other) BadUser) t) ∙ is

    at_id : (o : Option Id) → (local_user old folder o ≡ BadUser → ⊥) → local_user new folder o ≡ User id → local_user old folder o ≡ User id
    at_id None sound is = absurd (cc is)
    at_id (Some other) sound is = at_ref other (has_ref old folder side.Identities other) (has_ref new folder side.Identities other) refl refl sound is

    at_text : (o : Option (List ℕ)) → (user_of old folder o ≡ BadUser → ⊥) → user_of new folder o ≡ User id → user_of old folder o ≡ User id
    at_text None sound is = absurd (cc is)
    at_text (Some text) sound is = at_id (id_of (line_of text)) sound is

-- ---- a run

-- what came of the user file of a folder where what is asked for stopped: it is as it was, or an edit there wrote it
data FileCame (folder : List ℕ) (asks : Asked) (moment : Moment) (old new : History) : Type 0 where
  same : files_of new (joined folder user_place) ≡ files_of old (joined folder user_place) → FileCame folder asks moment old new
  makes : (name : Title) (email : Line) → asks ≡ asked.Request (record { folder = folder; command = Edit (edit.UserNew name email) })
      → files_of new (joined folder user_place) ≡ Some (id_line (new_made (env_at moment folder) name email None).id)
      → head_at (files_of old) folder side.Identities (new_made (env_at moment folder) name email None).id ≡ Absent → FileCame folder asks moment old new
  sets : (word : List ℕ) → asks ≡ asked.Request (record { folder = folder; command = Edit (edit.UserSet word) }) → FileCame folder asks moment old new

module _ (folders : List (List ℕ)) (apart : AreApart folders) (old new : History) where
  -- by an edit
  edited : (folder : List ℕ) (moment : Moment) (edits : Edits) → UserCame (env_at moment folder) edits old new → FileCame folder (asked.Request (record { folder = folder; command = Edit edits })) moment old new
  edited folder moment (edit.UserNew name email) (inl stays) = same stays
  edited folder moment (edit.UserNew name email) (inr (is, was)) = makes name email refl is was
  edited folder moment (edit.UserEdit name email) stays = same stays
  edited folder moment (edit.UserSet word) came = sets word refl
  edited folder moment (edit.New title message) stays = same stays
  edited folder moment (edit.OfBug word e) stays = same stays
  edited folder moment (edit.OfComment word message) stays = same stays

  -- nothing that is written
  none_written : (folder : List ℕ) (Rule : History → List Change → Change → Type 0) → ((earlier : List Change) (change : Change) → Rule old earlier change → ⊥) → WroteBy Rule old new
      → files_of new (joined folder user_place) ≡ files_of old (joined folder user_place)
  none_written folder Rule none wrote =
      (AllMoments-from_WroteBy Rule (λ (files : Files). files (joined folder user_place) ≡ files_of old (joined folder user_place)) old new
      (λ earlier change so_far may. absurd (none earlier change may)) refl wrote).each new (record { later = []; done = wrote.writes; before = wrote.grew; after = refl })

  -- by a command in the folder
  commanded : (folder : List ℕ) (moment : Moment) (command : Command) → WroteBy (CommandWrites (env_at moment folder) command) old new
      → FileCame folder (asked.Request (record { folder = folder; command = command })) moment old new
  commanded folder moment Users wrote = same (none_written folder (CommandWrites (env_at moment folder) Users) (λ earlier change none. none) wrote)
  commanded folder moment (Show bug) wrote = same (none_written folder (CommandWrites (env_at moment folder) (Show bug)) (λ earlier change none. none) wrote)
  commanded folder moment (Log bug) wrote = same (none_written folder (CommandWrites (env_at moment folder) (Log bug)) (λ earlier change none. none) wrote)
  commanded folder moment (Edit edits) wrote = edited folder moment edits (edit_user (env_at moment folder) old new edits wrote)
  commanded folder moment PackRefs wrote = same (kept folder old new new (pack_keeps folder old new wrote) (record { later = []; done = wrote.writes; before = wrote.grew; after = refl }))

  module _ (call : Call) (end : History) (stop : IsMoment old end new) (before after : List ℕ) (answer : Status) (tells : IsTrue call.store_tells) where
    -- in the folder in which is written
    in_place : (asks : Asked) → AskedAnswers asks call old end before after answer → WroteBy (AskedWrites asks call.moment) old new → (folder : List ℕ) → written_in asks ≡ Some folder → FileCame folder asks call.moment old new
    in_place asked.Nothing answers wrote folder some = absurd (cc some)
    in_place (asked.Refused bad) answers wrote folder some = absurd (cc some)
    in_place (asked.Request request) answers wrote folder some =
        let is : request.folder ≡ folder = cc some in
        subst (λ (f : List ℕ). FileCame f (asked.Request request) call.moment old new) is (commanded request.folder call.moment request.command wrote)
    in_place (asked.Exchange request) answers wrote folder some =
        let is : written_by request.command request.pair ≡ folder = cc some in
        same (subst (λ (f : List ℕ). files_of new (joined f user_place) ≡ files_of old (joined f user_place)) is (elim (answers.1 tells) [
          | inl unbegun ↦ none_came (written_by request.command request.pair) unbegun.1
          | inr begun ↦ exchanged request.command request.pair answers.0 begun.1 wrote
        ]))
      where
        none_came : (place : List ℕ) → end ≡ old → files_of new (joined place user_place) ≡ files_of old (joined place user_place)
        none_came place unwritten = kept place old end new (Wrote-none (Keeps place) old end unwritten) stop

        exchanged : (command : PeerCommand) (pair : FolderPair) (result : Result Answer Stop) → ExchangeAnswers command pair call.moment.now old end result → WroteBy (ExchangeWrites command pair) old new
            → files_of new (joined (written_by command pair) user_place) ≡ files_of old (joined (written_by command pair) user_place)
        exchanged (Fetch remote) pair result told wrote =
            kept pair.own old new new (fetched_keeps pair.own pair.peer remote old new wrote) (record { later = []; done = wrote.writes; before = wrote.grew; after = refl })
        exchanged (Pull remote) pair result told wrote =
            let given = told_of answer_of_pull stop_of_merge (PullAnswers pair.own pair.peer remote call.moment.now old end) result told in
            kept pair.own old end new (pull_keeps_user pair.own pair.peer remote call.moment.now (apart_of pair.own pair.peer pair.apart) old end given.0 given.1) stop
        exchanged Push pair result told wrote = kept pair.peer old new new (push_keeps pair.peer pair.own old new wrote) (record { later = []; done = wrote.writes; before = wrote.grew; after = refl })
    in_place (asked.Merge request) answers wrote folder some =
        let is : request.folder ≡ folder = cc some in
        same (subst (λ (f : List ℕ). files_of new (joined f user_place) ≡ files_of old (joined f user_place)) is (elim (answers.1 tells) [
          | inl unbegun ↦ kept request.folder old end new (Wrote-none (Keeps request.folder) old end unbegun.1) stop
          | inr begun ↦
              let given = told_of answer_of_merge stop_of_merge (MergeAnswers request.folder request.remote call.moment.now old end) answers.0 begun.1 in
              kept request.folder old end new (merge_keeps request.folder request.remote call.moment.now old end given.0 given.1) stop
        ]))
    in_place (asked.List request) answers wrote folder some =
        let is : request.folder ≡ folder = cc some in
        same (subst (λ (f : List ℕ). files_of new (joined f user_place) ≡ files_of old (joined f user_place)) is
        (kept request.folder old new new (rows_keep request.folder old new wrote) (record { later = []; done = wrote.writes; before = wrote.grew; after = refl })))

    -- in each folder
    in_folder : (asks : Asked) → StaysAmong folders asks → AskedAnswers asks call old end before after answer → WroteBy (AskedWrites asks call.moment) old new → (folder : List ℕ) → Contains folders folder
        → FileCame folder asks call.moment old new
    in_folder asks place answers wrote folder is = by (written_in asks) refl
      where
        far_off : ((other : List ℕ) → written_in asks ≡ Some other → Overlap folder other → ⊥) → FileCame folder asks call.moment old new
        far_off far =
            same ((AllMoments-from_WroteBy (AskedWrites asks call.moment) (λ (files : Files). files (joined folder user_place) ≡ files_of old (joined folder user_place)) old new
            (λ earlier change so_far may. asked_apart folder asks call.moment far old earlier change may user_place refl ∙ so_far)
            refl wrote).each new (record { later = []; done = wrote.writes; before = wrote.grew; after = refl }))

        by : (at : Option (List ℕ)) → written_in asks ≡ at → FileCame folder asks call.moment old new
        by None none = far_off (λ other some overlap. cc (sym none ∙ some))
        by (Some other) some = elim (among_is folders apart folder is asks place other some) [
          | inl is_it ↦ in_place asks answers wrote folder (some ∙ ap Some is_it)
          | inr far ↦ far_off (λ one also_some overlap. let is_it : other ≡ one = cc (sym some ∙ also_some) in far (subst (Overlap folder) (sym is_it) overlap))
        ]

  run_came : (run : IsRun folders old new) (folder : List ℕ) → Contains folders folder → FileCame folder (asked_of run.words) run.moment old new
  run_came run folder is =
      let call = call_of true run.sink_tells run.takes_memory (asked_of run.words) run.moment in
      in_folder call run.end run.stop run.before run.after run.status refl (asked_of run.words) run.place run.answers
      (WroteBy-before (AskedWrites (asked_of run.words) run.moment) old run.end new (run_wrote call old run.end run.before run.after run.status refl run.answers) run.stop) folder is

-- ---- runs

module _ (folders : List (List ℕ)) (apart : AreApart folders) where
  -- the user of a folder was made there
  user_made : (new : History) (runs : RunsAmong folders [] new) → AreSetAtHome folders [] new runs → (folder : List ℕ) → Contains folders folder → (id : Id) → user_at (files_of new) folder ≡ User id
      → IsMadeIn folders [] new runs id folder
  user_made new among.nothing at_home folder is id user = let none : NoUser ≡ User id = user in absurd (cc none)
  user_made new (among.one_more mid end runs run takes) at_home folder is id user = elim (run_came folders apart mid end run folder is) [
    | same stays ↦ inl (user_made mid runs at_home.0 folder is id (same_user folder (files_of mid) (files_of end) (before_sound folders apart mid runs folder is) stays id user))
    | makes name email asks is_line was ↦
        let made = (new_made (env_at run.moment folder) name email None).id in
        let is_made : IsId made = IsId-version_id (new_text (env_at run.moment folder) name email) in
        let names = names_user (files_of end) folder made id is_made is_line user in
        let sound = runs_keep_sound folders apart mid end (one_more mid end nothing run) (before_sound folders apart mid runs) folder is in
        let reads = there_reads folder (files_of end) sound made is_made names.1 in
        inr (subst (λ (one : Id). MakesPerson folders mid end run one folder) names.0
        (record { is = is; name = name; email = email; asked_for = asks; is_made = refl; was = was; head = reads.0; now = reads.1 }))
    | sets word asks ↦ inl (at_home.1 id folder (record { is = is; word = word; asked_for = asks; is_user = user }))
  ]

  -- so each identity is edited where it was made
  pub edited_at_home : (new : History) (runs : RunsAmong folders [] new) → AreSetAtHome folders [] new runs → AreEditedAtHome folders [] new runs
  edited_at_home new among.nothing at_home = tt
  edited_at_home new (among.one_more mid end runs run takes) at_home =
      (edited_at_home mid runs at_home.0, λ id folder edits. user_made mid runs at_home.0 folder edits.is id edits.is_user)

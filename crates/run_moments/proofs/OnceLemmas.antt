-- Whatever a run answers, each ref changes by one write at most.
use Rattle.std.proofs.Common.{◌≡◌, ◌⊎◌, inl, inr, refl, sym, ◌∙◌, subst, ℕ, IsTrue, List, ◌∷◌, [], ◌++◌, Contains, Option, None, Some, Result, Ok, Err}
use Rattle.gb_text.specs.Digits.{IsId}
use Rattle.gb_text.specs.Overlap.{Overlap}
use Rattle.gb_text.specs.declared.id.Id.{Id}
use Rattle.gb_store.specs.Files.{History, files_of, written}
use Rattle.gb_store.specs.Moments.{WroteBy}
use Rattle.gb_store.specs.declared.store.Change.{Change}
use Rattle.bug_edits.specs.declared.moment.Moment.{Moment}
use Rattle.repo_state.specs.declared.side.Side.{Side}
use Rattle.repo_state.proofs.PlaceLemmas.{same_or_other}
use Rattle.repo_steps.specs.declared.env.Env.{Env}
use Rattle.repo_steps.specs.declared.refusal.Stop.{Stop}
use Rattle.repo_steps.specs.Stops.{stop_of_read}
use Rattle.repo_writes.proofs.SoundLemmas.{write-place}
use Rattle.repo_writes.proofs.StayLemmas.{FilesStay, stay-apart}
use Rattle.sync_steps.specs.Fetching.{FetchAnswers}
use Rattle.sync_steps.specs.Pushing.{PushAnswers}
use Rattle.sync_writes.proofs.PlaceLemmas.{fetch-place}
use Rattle.merge_steps.specs.Pulling.{PullAnswers}
use Rattle.merge_steps.specs.Turns.{MergeAnswers}
use Rattle.words.specs.declared.edit.Edit.{Edit as Edits}
use Rattle.words.specs.declared.pair.FolderPair.{FolderPair}
use Rattle.words.specs.declared.words.Asked.{Asked}
use Rattle.words.specs.declared.words.Asked.TheVariants as asked
use Rattle.words.specs.declared.words.Command.{Command}
use Rattle.words.specs.declared.words.Command.TheVariants.{Edit, Log, PackRefs, Show, Users}
use Rattle.words.specs.declared.words.PeerCommand.{PeerCommand}
use Rattle.words.specs.declared.words.PeerCommand.TheVariants.{Fetch, Pull, Push}
use Rattle.bug_run.specs.Answer.{Answer}
use Rattle.bug_run.specs.Exchanges.{ExchangeAnswers, ExchangeWrites, Told, answer_of, answer_of_merge, answer_of_pull, stop_of_merge, written_by}
use Rattle.bug_run.specs.Looks.{Guarded, first_unread, pair_looks}
use Rattle.bug_run.specs.Run.{AskedAnswers, AskedWrites, Call, CommandAnswers, EditTells, RunAnswers, env_at}
use Rattle.bug_run.specs.Runs.{AreApart, IsAmong, StaysAmong}
use Rattle.bug_run.specs.declared.status.Status.{Status}
use Rattle.bug_run.proofs.PackLemmas.{pack_wrote}
use Rattle.bug_run.proofs.RunLemmas.{of_kinds, of_rows, run_wrote}
use Rattle.ref_moments.specs.Once.{ChangesOnce, StaysSame}
use Rattle.ref_moments.proofs.ApartLemmas.{fetch_apart, files_stay, kinds_apart, pack_stays, pack_stays_apart, push_apart, rows_stay}
use Rattle.ref_moments.proofs.EditLemmas.{edit_sets}
use Rattle.ref_moments.proofs.FetchLemmas.{fetch_once}
use Rattle.ref_moments.proofs.MergeLemmas.{merge_once}
use Rattle.ref_moments.proofs.OnceLemmas.{stays_none}
use Rattle.ref_moments.proofs.PullLemmas.{pull_once}
use Rattle.ref_moments.proofs.PushLemmas.{push_once}
use Rattle.run_moments.specs.Places.{IsThatOrApart, written_in}

-- whatever is told, the call gave its lines or ended
told_of : {Lines Why : Type 0} (answer : Lines → Answer) (stop_of : Why → Stop) (Answers : Result Lines Why → Type 0) (result : Result Answer Stop) → Told answer stop_of Answers result
    → (given : Result Lines Why) × Answers given
told_of answer stop_of Answers (Ok said) (lines, is, told) = (Ok lines, is)
told_of answer stop_of Answers (Err s) (inl (why, is, told)) = (Err why, is)
told_of answer stop_of Answers (Err s) (inr (want, (lines, is))) = (Ok lines, is)

module _ (folder : List ℕ) (of : Side) (id : Id) (old new : History) where
  -- ---- a folder apart from the one in which is written

  exchange_apart : (command : PeerCommand) (pair : FolderPair) → (Overlap folder (written_by command pair) → ⊥) → WroteBy (ExchangeWrites command pair) old new → StaysSame folder of id old new
  exchange_apart (Fetch remote) pair apart wrote = fetch_apart folder pair.own apart of id old new pair.peer remote wrote
  exchange_apart Push pair apart wrote = push_apart folder pair.peer apart of id old new pair.own wrote
  exchange_apart (Pull remote) pair apart wrote = files_stay (ExchangeWrites (Pull remote) pair) folder of id old new each wrote
    where
      each : (earlier : List Change) (change : Change) → ExchangeWrites (Pull remote) pair old earlier change → FilesStay folder (files_of (earlier ++ old)) (written (files_of (earlier ++ old)) change)
      each earlier change (inl fetched) = stay-apart folder pair.own apart (files_of (earlier ++ old)) change (fetch-place pair.own pair.peer remote old earlier change fetched)
      each earlier change (inr write) = stay-apart folder pair.own apart (files_of (earlier ++ old)) change (write-place pair.own (files_of (earlier ++ old)) change write)

  asked_apart : (asks : Asked) (moment : Moment) → ((place : List ℕ) → written_in asks ≡ Some place → Overlap folder place → ⊥) → WroteBy (AskedWrites asks moment) old new → StaysSame folder of id old new
  asked_apart asked.Nothing moment apart wrote = files_stay (AskedWrites asked.Nothing moment) folder of id old new (λ earlier change none. absurd none) wrote
  asked_apart (asked.Refused bad) moment apart wrote = files_stay (AskedWrites (asked.Refused bad) moment) folder of id old new (λ earlier change none. absurd none) wrote
  asked_apart (asked.Request request) moment apart wrote = elim (of_kinds request moment old new wrote) [
    | inl writes ↦ kinds_apart folder request.folder (apart request.folder refl) of id old new writes
    | inr packs ↦ pack_stays_apart folder request.folder (apart request.folder refl) of id old new packs
  ]
  asked_apart (asked.Exchange request) moment apart wrote = exchange_apart request.command request.pair (apart (written_by request.command request.pair) refl) wrote
  asked_apart (asked.Merge request) moment apart wrote = kinds_apart folder request.folder (apart request.folder refl) of id old new wrote
  asked_apart (asked.List request) moment apart wrote = kinds_apart folder request.folder (apart request.folder refl) of id old new (of_rows request.folder old new wrote)

  -- ---- that folder

  by_set : (is : Type 0) → (is → ChangesOnce folder of id old new) → StaysSame folder of id old new ⊎ is → ChangesOnce folder of id old new
  by_set is set (inl stays) = inl stays
  by_set is set (inr has) = set has

module _ (of : Side) (id : Id) (is_id : IsId id) (old new : History) where
  edit_once : (env : Env) (edit : Edits) (result : Result Answer Stop) → EditTells env edit old new result → ChangesOnce env.folder of id old new
  edit_once env edit (Ok said) is = by_set env.folder of id old new _ (λ set. inr (set.set.head, set.once)) (edit_sets env edit old new (Ok is.0) is.1 of id)
  edit_once env edit (Err s) is = by_set env.folder of id old new _ (λ set. inr (set.set.head, set.once)) (edit_sets env edit old new (Err s) is of id)

  command_once : (env : Env) (command : Command) (result : Result Answer Stop) → CommandAnswers env command old new result → ChangesOnce env.folder of id old new
  command_once env Users result is = inl (stays_none env.folder of id old new is.1)
  command_once env (Show bug) result is = inl (stays_none env.folder of id old new is.1)
  command_once env (Log bug) result is = inl (stays_none env.folder of id old new is.1)
  command_once env (Edit edit) result is = edit_once env edit result is
  command_once env PackRefs result is = inl (pack_stays env.folder of id old new (pack_wrote env.folder old new result is))

  exchange_once : (command : PeerCommand) (pair : FolderPair) (now : ℕ) (result : Result Answer Stop) → ExchangeAnswers command pair now old new result → ChangesOnce (written_by command pair) of id old new
  exchange_once (Fetch remote) pair now result is =
      let given = told_of answer_of stop_of_read (FetchAnswers pair.own pair.peer remote old new) result is in
      by_set pair.own of id old new _ (λ set. inr (set.head, set.once)) (fetch_once pair.own pair.peer remote old of id is_id new given.0 given.1)
  exchange_once Push pair now result is =
      let given = told_of answer_of stop_of_read (PushAnswers pair.own pair.peer old new) result is in
      by_set pair.peer of id old new _ (λ set. inr (set.head, set.once)) (push_once pair.own pair.peer old of id is_id new given.0 given.1)
  exchange_once (Pull remote) pair now result is =
      let given = told_of answer_of_pull stop_of_merge (PullAnswers pair.own pair.peer remote now old new) result is in
      by_set pair.own of id old new _ (λ set. elim set [ inl fetched ↦ inr (fetched.head, fetched.once) | inr pulled ↦ inr (pulled.head, pulled.once) ])
      (pull_once pair.own pair.peer remote now of id is_id old new given.0 given.1)

  -- a call that may have been kept from beginning
  guarded_once : (folder : List ℕ) (first : Option (List ℕ)) (Answers : Result Answer Stop → Type 0) (result : Result Answer Stop) → (Answers result → ChangesOnce folder of id old new)
      → Guarded first Answers old new result → ChangesOnce folder of id old new
  guarded_once folder first Answers result once (inl unbegun) = inl (stays_none folder of id old new unbegun.1)
  guarded_once folder first Answers result once (inr answers) = once answers.1

  asked_once : (asks : Asked) (call : Call) (before after : List ℕ) (answer : Status) → IsTrue call.store_tells → AskedAnswers asks call old new before after answer → (folder : List ℕ) → written_in asks ≡ Some folder
      → ChangesOnce folder of id old new
  asked_once asked.Nothing call before after answer tells is folder none = absurd (cc none)
  asked_once (asked.Refused bad) call before after answer tells is folder none = absurd (cc none)
  asked_once (asked.Request request) call before after answer tells is folder at =
      let same : request.folder ≡ folder = cc at in
      let env = env_at call.moment request.folder in
      subst (λ (f : List ℕ). ChangesOnce f of id old new) same
      (guarded_once request.folder (first_unread (files_of old) (request.folder ∷ [])) (CommandAnswers env request.command old new) is.0 (command_once env request.command is.0) (is.1 tells))
  asked_once (asked.Exchange request) call before after answer tells is folder at =
      let same : written_by request.command request.pair ≡ folder = cc at in
      subst (λ (f : List ℕ). ChangesOnce f of id old new) same
      (guarded_once (written_by request.command request.pair) (first_unread (files_of old) (pair_looks request.command request.pair (files_of old))) (ExchangeAnswers request.command request.pair call.moment.now old new) is.0
      (exchange_once request.command request.pair call.moment.now is.0) (is.1 tells))
  asked_once (asked.Merge request) call before after answer tells is folder at =
      let same : request.folder ≡ folder = cc at in
      subst (λ (f : List ℕ). ChangesOnce f of id old new) same
      (guarded_once request.folder (first_unread (files_of old) (request.folder ∷ [])) (Told answer_of_merge stop_of_merge (MergeAnswers request.folder request.remote call.moment.now old new)) is.0
      (λ told.
      let given = told_of answer_of_merge stop_of_merge (MergeAnswers request.folder request.remote call.moment.now old new) is.0 told in
      by_set request.folder of id old new _ (λ set. inr (set.head, set.once)) (merge_once request.folder request.remote call.moment.now old of id is_id new given.0 given.1)) (is.1 tells))
  asked_once (asked.List request) call before after answer tells is folder at =
      let same : request.folder ≡ folder = cc at in
      subst (λ (f : List ℕ). ChangesOnce f of id old new) same
      (elim (is.1 tells) [
        | inl unbegun ↦ inl (stays_none request.folder of id old new unbegun.1)
        | inr listed ↦ inl (rows_stay request.folder of id old new listed.1.1)
      ])

  -- ---- any run

  pub run_once : (call : Call) (before after : List ℕ) (answer : Status) → IsTrue call.store_tells → RunAnswers call old new before after answer → (folder : List ℕ) → IsThatOrApart folder call.asked
      → ChangesOnce folder of id old new
  run_once call before after answer tells is folder at = by (written_in call.asked) refl
    where
      wrote : WroteBy (AskedWrites call.asked call.moment) old new
      wrote = run_wrote call old new before after answer tells is

      by : (place : Option (List ℕ)) → written_in call.asked ≡ place → ChangesOnce folder of id old new
      by None none = inl (asked_apart folder of id old new call.asked call.moment (λ place some overlap. cc (sym none ∙ some)) wrote)
      by (Some place) some = elim (at place some) [
        | inl same ↦ subst (λ (f : List ℕ). ChangesOnce f of id old new) same (asked_once call.asked call before after answer tells is place some)
        | inr apart ↦ inl (asked_apart folder of id old new call.asked call.moment
            (λ other also overlap. let same : place ≡ other = cc (sym some ∙ also) in apart (subst (Overlap folder) (sym same) overlap)) wrote)
      ]

-- ---- one of several folders

-- a folder among some of which no two overlap is the one in which a run among them writes, or apart from it
pub among_is : (folders : List (List ℕ)) → AreApart folders → (folder : List ℕ) → Contains folders folder → (asks : Asked) → StaysAmong folders asks → IsThatOrApart folder asks
among_is folders apart folder is asks stays place at = by asks stays at
  where
    one : (other : List ℕ) → IsAmong folders other → (other ≡ folder) ⊎ (Overlap folder other → ⊥)
    one other (inr none) = inr (none folder is)
    one other (inl also) = elim (same_or_other other folder) [ inl same ↦ inl same | inr differ ↦ inr (λ overlap. differ (sym (apart folder other is also overlap))) ]

    that : (other : List ℕ) → IsAmong folders other → Some other ≡ Some place → (place ≡ folder) ⊎ (Overlap folder place → ⊥)
    that other among same = let e : other ≡ place = cc same in subst (λ (p : List ℕ). (p ≡ folder) ⊎ (Overlap folder p → ⊥)) e (one other among)

    by : (asks : Asked) → StaysAmong folders asks → written_in asks ≡ Some place → (place ≡ folder) ⊎ (Overlap folder place → ⊥)
    by asked.Nothing stays at = absurd (cc at)
    by (asked.Refused bad) stays at = absurd (cc at)
    by (asked.Request request) stays at = that request.folder stays at
    by (asked.Exchange request) stays at = that (written_by request.command request.pair) stays.0 at
    by (asked.Merge request) stays at = that request.folder stays at
    by (asked.List request) stays at = that request.folder stays at

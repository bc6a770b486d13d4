-- A run keeps the trees of folders flat, wherever it stops.
use Rattle.std.proofs.Common.{inl, inr, refl, ℕ, true, IsTrue, List, [], ◌++◌, Contains, Result, Ok, Err}
use Rattle.gb_text.specs.Overlap.{Overlap}
use Rattle.gb_store.specs.Files.{Files, History, files_of}
use Rattle.gb_store.specs.Moments.{Wrote, WroteBy, at_moment}
use Rattle.gb_store.specs.declared.store.Change.{Change}
use Rattle.gb_store.proofs.MomentLemmas.{AllMoments-from_Wrote, Wrote-none, WroteBy-wider}
use Rattle.repo_steps.specs.Stops.{stop_of_read}
use Rattle.repo_steps.specs.declared.env.Env.{Env}
use Rattle.repo_steps.specs.declared.refusal.Stop.{Stop}
use Rattle.repo_writes.specs.Kinds.{IsWrite, a_row}
use Rattle.repo_writes.proofs.PlaceLemmas.{place_plain}
use Rattle.repo_writes.proofs.SoundLemmas.{write-place}
use Rattle.repo_writes.proofs.StayLemmas.{IsAtPlace}
use Rattle.row_text.specs.Rows.{row_text}
use Rattle.sync_steps.specs.Fetching.{FetchAnswers}
use Rattle.sync_steps.specs.Pushing.{PushAnswers}
use Rattle.sync_writes.proofs.PlaceLemmas.{fetch-place, push-place}
use Rattle.merge_steps.specs.Pulling.{PullAnswers}
use Rattle.merge_steps.specs.Turns.{MergeAnswers}
use Rattle.words.specs.Words.{asked_of}
use Rattle.words.specs.declared.pair.FolderPair.{FolderPair}
use Rattle.words.specs.declared.words.Asked.{Asked}
use Rattle.words.specs.declared.words.Asked.TheVariants as asked
use Rattle.words.specs.declared.words.Command.{Command}
use Rattle.words.specs.declared.words.Command.TheVariants.{Edit, Log, PackRefs, Show, Users}
use Rattle.words.specs.declared.words.PeerCommand.{PeerCommand}
use Rattle.words.specs.declared.words.PeerCommand.TheVariants.{Fetch, Pull, Push}
use Rattle.bug_run.specs.Answer.{Answer}
use Rattle.bug_run.specs.Exchanges.{ExchangeAnswers, ExchangeWrites, Told, answer_of, answer_of_merge, answer_of_pull, stop_of_merge, written_by}
use Rattle.bug_run.specs.Run.{AskedAnswers, AskedWrites, Call, CommandWrites, call_of, env_at}
use Rattle.bug_run.specs.Runs.{AreApart, IsRun, StaysAmong}
use Rattle.bug_run.specs.declared.status.Status.{Status}
use Rattle.bug_run.proofs.RunLemmas.{run_wrote}
use Rattle.exchange_runs.specs.Takes.{RunsAmong, TakesAmong, TakesFrom}
use Rattle.exchange_runs.specs.Takes as among
use Rattle.flat_trees.specs.Flat.{AreAllFlat}
use Rattle.flat_trees.proofs.CopyLemmas.{fetch_keeps, pull_keeps, push_keeps}
use Rattle.flat_trees.proofs.EditLemmas.{edit_keeps}
use Rattle.flat_trees.proofs.KeepLemmas.{KeepsFlat, far_keeps, far_pack_keeps, pack_keeps, row_keeps}
use Rattle.flat_trees.proofs.MergeLemmas.{merge_keeps}

-- whatever is told, the call gave its lines or ended
told_of : {Lines Why : Type 0} (answer : Lines → Answer) (stop_of : Why → Stop) (Answers : Result Lines Why → Type 0) (result : Result Answer Stop) → Told answer stop_of Answers result
    → (given : Result Lines Why) × Answers given
told_of answer stop_of Answers (Ok said) (lines, is, told) = (Ok lines, is)
told_of answer stop_of Answers (Err s) (inl (why, is, told)) = (Err why, is)
told_of answer stop_of Answers (Err s) (inr (want, (lines, is))) = (Ok lines, is)

-- a folder overlaps none of these
abbrev IsFar : List (List ℕ) → List ℕ → Type 0
IsFar folders place = (folder : List ℕ) → Contains folders folder → Overlap folder place → ⊥

-- a write there keeps their trees flat
at_keeps : (folders : List (List ℕ)) (place : List ℕ) → IsFar folders place → (files : Files) (change : Change) → IsAtPlace place change → KeepsFlat folders files change
at_keeps folders place far files change at = far_keeps folders place far files change (at.0, place_plain at.0 at.1, at.2)

write_keeps : (folders : List (List ℕ)) (place : List ℕ) → IsFar folders place → (files : Files) (change : Change) → IsWrite place files change → KeepsFlat folders files change
write_keeps folders place far files change may = at_keeps folders place far files change (write-place place files change may)

module _ (folders : List (List ℕ)) (apart : AreApart folders) where
  abbrev May : Files → Change → Type 0
  May = KeepsFlat folders

  -- ---- commands in a folder

  command_keeps : (env : Env) → Contains folders env.folder → (command : Command) (old : History) (earlier : List Change) (change : Change) → CommandWrites env command old earlier change
      → May (files_of (earlier ++ old)) change
  command_keeps env is Users old earlier change none = absurd none
  command_keeps env is (Show bug) old earlier change none = absurd none
  command_keeps env is (Log bug) old earlier change none = absurd none
  command_keeps env is (Edit edit) old earlier change may = edit_keeps folders apart env is edit old earlier change may
  command_keeps env is PackRefs old earlier change may = pack_keeps folders apart env.folder is (files_of (earlier ++ old)) change may

  far_command_keeps : (env : Env) → IsFar folders env.folder → (command : Command) (old : History) (earlier : List Change) (change : Change) → CommandWrites env command old earlier change
      → May (files_of (earlier ++ old)) change
  far_command_keeps env far Users old earlier change none = absurd none
  far_command_keeps env far (Show bug) old earlier change none = absurd none
  far_command_keeps env far (Log bug) old earlier change none = absurd none
  far_command_keeps env far (Edit edit) old earlier change may = write_keeps folders env.folder far (files_of (earlier ++ old)) change may.kind
  far_command_keeps env far PackRefs old earlier change may = far_pack_keeps folders env.folder far (files_of (earlier ++ old)) change may

  -- ---- a run

  module _ (call : Call) (old end : History) (before after : List ℕ) (answer : Status) (tells : IsTrue call.store_tells) where
    -- a command with a peer, which writes in one of the folders
    exchanged : (command : PeerCommand) (pair : FolderPair) (result : Result Answer Stop) → ExchangeAnswers command pair call.moment.now old end result
        → StaysAmong folders (asked.Exchange (record { pair = pair; command = command })) → TakesFrom folders command pair → Contains folders (written_by command pair) → Wrote May old end
    exchanged (Fetch remote) pair result told place takes is =
        let given = told_of answer_of stop_of_read (FetchAnswers pair.own pair.peer remote old end) result told in
        fetch_keeps folders apart pair.own pair.peer is (takes is) remote old end given.0 given.1
    exchanged (Pull remote) pair result told place takes is =
        let given = told_of answer_of_pull stop_of_merge (PullAnswers pair.own pair.peer remote call.moment.now old end) result told in
        pull_keeps folders apart pair.own pair.peer is (takes is) remote call.moment.now old end given.0 given.1
    exchanged Push pair result told place takes is =
        let given = told_of answer_of stop_of_read (PushAnswers pair.own pair.peer old end) result told in
        push_keeps folders apart pair.own pair.peer (place.1 refl is) is old end given.0 given.1

    -- or in a folder that overlaps none of them
    far_exchanged : (command : PeerCommand) (pair : FolderPair) → IsFar folders (written_by command pair) → (earlier : List Change) (change : Change) → ExchangeWrites command pair old earlier change
        → May (files_of (earlier ++ old)) change
    far_exchanged (Fetch remote) pair far earlier change may =
        at_keeps folders pair.own far (files_of (earlier ++ old)) change (fetch-place pair.own pair.peer remote old earlier change may)
    far_exchanged (Pull remote) pair far earlier change (inl fetched) =
        at_keeps folders pair.own far (files_of (earlier ++ old)) change (fetch-place pair.own pair.peer remote old earlier change fetched)
    far_exchanged (Pull remote) pair far earlier change (inr merged) = write_keeps folders pair.own far (files_of (earlier ++ old)) change merged
    far_exchanged Push pair far earlier change may =
        at_keeps folders pair.peer far (files_of (earlier ++ old)) change (push-place pair.own pair.peer (files_of (earlier ++ old)) change may)

    -- whatever was asked for
    asked_keeps : (asks : Asked) → StaysAmong folders asks → TakesAmong folders asks → AskedAnswers asks call old end before after answer → WroteBy (AskedWrites asks call.moment) old end → Wrote May old end
    asked_keeps asked.Nothing place takes answers wrote = Wrote-none May old end (answers.0 tells)
    asked_keeps (asked.Refused bad) place takes answers wrote = Wrote-none May old end (answers.0 tells)
    asked_keeps (asked.Request request) place takes answers wrote =
        let env = env_at call.moment request.folder in
        elim place [
          | inl is ↦ WroteBy-wider (CommandWrites env request.command) (at_moment May) old end (λ (earlier : List Change) (change : Change) may. command_keeps env is request.command old earlier change may) wrote
          | inr far ↦ WroteBy-wider (CommandWrites env request.command) (at_moment May) old end (λ (earlier : List Change) (change : Change) may. far_command_keeps env far request.command old earlier change may) wrote
        ]
    asked_keeps (asked.Exchange request) place takes answers wrote = elim place.0 [
      | inl is ↦ elim (answers.1 tells) [
        | inl unbegun ↦ Wrote-none May old end unbegun.1
        | inr begun ↦ exchanged request.command request.pair answers.0 begun.1 place takes is
      ]
      | inr far ↦ WroteBy-wider (ExchangeWrites request.command request.pair) (at_moment May) old end (λ (earlier : List Change) (change : Change) may. far_exchanged request.command request.pair far earlier change may) wrote
    ]
    asked_keeps (asked.Merge request) place takes answers wrote = elim place [
      | inl is ↦ elim (answers.1 tells) [
        | inl unbegun ↦ Wrote-none May old end unbegun.1
        | inr begun ↦
            let given = told_of answer_of_merge stop_of_merge (MergeAnswers request.folder request.remote call.moment.now old end) answers.0 begun.1 in
            merge_keeps folders apart request.folder is request.remote call.moment.now old end given.0 given.1
      ]
      | inr far ↦
          WroteBy-wider (AskedWrites (asked.Merge request) call.moment) (at_moment May) old end
          (λ (earlier : List Change) (change : Change) may. write_keeps folders request.folder far (files_of (earlier ++ old)) change may) wrote
    ]
    asked_keeps (asked.List request) place takes answers wrote = elim place [
      | inl is ↦
          WroteBy-wider (AskedWrites (asked.List request) call.moment) (at_moment May) old end
          (λ (earlier : List Change) (change : Change) may. row_keeps folders apart request.folder is (files_of (earlier ++ old)) change may.id (row_text may.row) may.write) wrote
      | inr far ↦
          WroteBy-wider (AskedWrites (asked.List request) call.moment) (at_moment May) old end
          (λ (earlier : List Change) (change : Change) may. write_keeps folders request.folder far (files_of (earlier ++ old)) change (a_row may)) wrote
    ]

  -- at the moment where a run stops
  pub run_flat : (old new : History) (run : IsRun folders old new) → TakesAmong folders (asked_of run.words) → AreAllFlat folders (files_of old) → AreAllFlat folders (files_of new)
  run_flat old new run takes flat =
      let call = call_of true run.sink_tells run.takes_memory (asked_of run.words) run.moment in
      let wrote = run_wrote call old run.end run.before run.after run.status refl run.answers in
      let kept = asked_keeps call old run.end run.before run.after run.status refl (asked_of run.words) run.place takes run.answers wrote in
      (AllMoments-from_Wrote May (AreAllFlat folders) (λ files change good may. may good) old run.end flat kept).each new run.stop

  -- and after any runs from no files at all
  pub runs_flat : (new : History) → RunsAmong folders [] new → AreAllFlat folders (files_of new)
  runs_flat new among.nothing = λ folder is name tree held. absurd (cc held)
  runs_flat new (among.one_more mid end runs run takes) = run_flat mid end run takes (runs_flat mid runs)

-- What is told of a call, and what a run leaves of a folder apart from the one in which it writes.
use Rattle.std.proofs.Common.{◌≡◌, inl, inr, refl, ℕ, List, ◌++◌, Some, Result, Ok, Err}
use Rattle.gb_text.specs.Overlap.{Overlap}
use Rattle.gb_store.specs.Files.{History, files_of, written}
use Rattle.gb_store.specs.declared.store.Change.{Change}
use Rattle.bug_edits.specs.declared.moment.Moment.{Moment}
use Rattle.repo_writes.specs.Kinds.{a_row}
use Rattle.repo_writes.proofs.PackLemmas.{pack_apart}
use Rattle.repo_writes.proofs.SoundLemmas.{write-place}
use Rattle.repo_writes.proofs.StayLemmas.{FilesStay, stay-apart}
use Rattle.repo_steps.specs.declared.refusal.Stop.{Stop}
use Rattle.sync_writes.proofs.PlaceLemmas.{fetch-place, push-place}
use Rattle.words.specs.declared.pair.FolderPair.{FolderPair}
use Rattle.words.specs.declared.words.Asked.{Asked}
use Rattle.words.specs.declared.words.Asked.TheVariants as asked
use Rattle.words.specs.declared.words.Command.{Command}
use Rattle.words.specs.declared.words.Command.TheVariants.{Edit, Log, PackRefs, Show, Users}
use Rattle.words.specs.declared.words.PeerCommand.{PeerCommand}
use Rattle.words.specs.declared.words.PeerCommand.TheVariants.{Fetch, Pull, Push}
use Rattle.bug_run.specs.Answer.{Answer}
use Rattle.bug_run.specs.Exchanges.{ExchangeWrites, Told, written_by}
use Rattle.bug_run.specs.Run.{AskedWrites}
use Rattle.run_moments.specs.Places.{written_in}

-- whatever is told, the call gave its lines or ended
pub told_of : {Lines Why : Type 0} (answer : Lines → Answer) (stop_of : Why → Stop) (Answers : Result Lines Why → Type 0) (result : Result Answer Stop) → Told answer stop_of Answers result
    → (given : Result Lines Why) × Answers given
told_of answer stop_of Answers (Ok said) (lines, is, told) = (Ok lines, is)
told_of answer stop_of Answers (Err s) (inl (why, is, told)) = (Err why, is)
told_of answer stop_of Answers (Err s) (inr (want, (lines, is))) = (Ok lines, is)

-- what is written for arguments leaves the files of a folder apart from the one in which is written
pub asked_apart : (folder : List ℕ) (asks : Asked) (moment : Moment) → ((place : List ℕ) → written_in asks ≡ Some place → Overlap folder place → ⊥) → (old : History) (earlier : List Change) (change : Change)
    → AskedWrites asks moment old earlier change → FilesStay folder (files_of (earlier ++ old)) (written (files_of (earlier ++ old)) change)
asked_apart folder asked.Nothing moment apart old earlier change none = absurd none
asked_apart folder (asked.Refused bad) moment apart old earlier change none = absurd none
asked_apart folder (asked.Request request) moment apart old earlier change may = by request.command may
  where
    by : (command : Command) → AskedWrites (asked.Request (record { folder = request.folder; command = command })) moment old earlier change
        → FilesStay folder (files_of (earlier ++ old)) (written (files_of (earlier ++ old)) change)
    by Users none = absurd none
    by (Show bug) none = absurd none
    by (Log bug) none = absurd none
    by (Edit edit) write = stay-apart folder request.folder (apart request.folder refl) (files_of (earlier ++ old)) change (write-place request.folder (files_of (earlier ++ old)) change write.kind)
    by PackRefs write = pack_apart folder request.folder (apart request.folder refl) (files_of (earlier ++ old)) change write
asked_apart folder (asked.Exchange request) moment apart old earlier change may = by request.command (apart _ refl) may
  where
    pair : FolderPair
    pair = request.pair

    by : (command : PeerCommand) → (Overlap folder (written_by command pair) → ⊥) → ExchangeWrites command pair old earlier change → FilesStay folder (files_of (earlier ++ old)) (written (files_of (earlier ++ old)) change)
    by (Fetch remote) far write = stay-apart folder pair.own far (files_of (earlier ++ old)) change (fetch-place pair.own pair.peer remote old earlier change write)
    by (Pull remote) far (inl write) = stay-apart folder pair.own far (files_of (earlier ++ old)) change (fetch-place pair.own pair.peer remote old earlier change write)
    by (Pull remote) far (inr write) = stay-apart folder pair.own far (files_of (earlier ++ old)) change (write-place pair.own (files_of (earlier ++ old)) change write)
    by Push far write = stay-apart folder pair.peer far (files_of (earlier ++ old)) change (push-place pair.own pair.peer (files_of (earlier ++ old)) change write)
asked_apart folder (asked.Merge request) moment apart old earlier change write =
    stay-apart folder request.folder (apart request.folder refl) (files_of (earlier ++ old)) change (write-place request.folder (files_of (earlier ++ old)) change write)
asked_apart folder (asked.List request) moment apart old earlier change row =
    stay-apart folder request.folder (apart request.folder refl) (files_of (earlier ++ old)) change (write-place request.folder (files_of (earlier ++ old)) change (a_row row))

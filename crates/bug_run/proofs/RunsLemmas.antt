-- Whatever runs, and wherever each stops, folders apart stay sound and lose nothing.
use Rattle.std.proofs.Common.{◌≡◌, ◌≢◌, ◌⊎◌, inl, inr, ℕ, List, [], Contains, true, refl, sym, subst}
use Rattle.gb_text.specs.Overlap.{Overlap}
use Rattle.gb_store.specs.Files.{History, files_of}
use Rattle.gb_store.specs.Moments.{AllMoments, Wrote, WroteBy, at_moment}
use Rattle.gb_store.specs.declared.store.Change.{Change}
use Rattle.gb_store.proofs.MomentLemmas.{WroteBy-wider}
use Rattle.bug_edits.specs.declared.moment.Moment.{Moment}
use Rattle.repo_state.specs.Sound.{IsSound, KeepsParts}
use Rattle.repo_state.proofs.EmptyLemmas.{empty_is_sound}
use Rattle.repo_state.proofs.PlaceLemmas.{same_or_other}
use Rattle.repo_writes.specs.Kept.{LosesNothing}
use Rattle.ref_packing.specs.Kinds.{IsPackWrite}
use Rattle.repo_writes.specs.Kinds.{IsWrite}
use Rattle.repo_writes.proofs.PackLemmas.{pack_apart_keeps_parts, pack_apart_loses_nothing, pack_keeps_parts, pack_loses_nothing}
use Rattle.repo_writes.proofs.KeptLemmas.{LosesNothing-none, LosesNothing-then, apart_keeps_parts, apart_loses_nothing, loses_nothing}
use Rattle.repo_writes.proofs.SoundLemmas.{keeps_parts, keeps_sound}
use Rattle.bug_run.specs.Exchanges.{ExchangeWrites, written_by}
use Rattle.bug_run.specs.Run.{AskedWrites, call_of}
use Rattle.bug_run.specs.Runs.{AreAllSound, AreApart, IsAmong, IsRun, Runs, StaysAmong, nothing, one_more}
use Rattle.words.specs.Words.{asked_of}
use Rattle.words.specs.declared.pair.FolderPair.{FolderPair}
use Rattle.words.specs.declared.words.Asked.{Asked}
use Rattle.words.specs.declared.words.Asked.TheVariants as asked
use Rattle.words.specs.declared.words.PeerCommand.{PeerCommand}
use Rattle.words.specs.declared.words.PeerCommand.TheVariants.{Fetch, Pull, Push}
use Rattle.bug_run.proofs.ExchangeLemmas.{exchange_leaves_apart, exchange_loses_nothing, exchange_stays_sound}
use Rattle.bug_run.proofs.RunLemmas.{of_kinds, of_rows, run_wrote}

-- what writes keep of one of some folders
record Keeps (folders : List (List ℕ)) (folder : List ℕ) (old new : History) : Type 0 where
  pub sound : AreAllSound folders (files_of old) → AllMoments (IsSound folder) old new
  pub kept : AllMoments (LosesNothing folder (files_of old)) old new

-- the folder, or one apart from it
abbrev IsThisOrApart : List ℕ → List ℕ → Type 0
IsThisOrApart folder other = (other ≡ folder) ⊎ (Overlap folder other → ⊥)

module _ (folders : List (List ℕ)) (apart : AreApart folders) (folder : List ℕ) (is : Contains folders folder) where
  -- a folder that is one of these or overlaps none is this one or apart from it
  this_or_apart : (other : List ℕ) → IsAmong folders other → IsThisOrApart folder other
  this_or_apart other (inr none) = inr (λ overlap. none folder is overlap)
  this_or_apart other (inl also) = each (same_or_other other folder)
    where
      each : (other ≡ folder) ⊎ (other ≢ folder) → IsThisOrApart folder other
      each (inl same) = inl same
      each (inr differ) = inr (λ overlap. differ (sym (apart folder other is also overlap)))

  -- where each part is kept, and nothing is lost
  by_parts : (old new : History) → KeepsParts folder old new → AllMoments (LosesNothing folder (files_of old)) old new → Keeps folders folder old new
  by_parts old new parts kept = record { sound = λ all. keeps_sound folder old new parts (all folder is); kept = kept }

  -- what is written in a folder keeps it, and those apart from it
  there : (other : List ℕ) (old new : History) → IsThisOrApart folder other → Wrote (IsWrite other) old new → Keeps folders folder old new
  there other old new (inl same) wrote =
      let writes = subst (λ (f : List ℕ). Wrote (IsWrite f) old new) same wrote in
      by_parts old new (keeps_parts folder old new writes) (loses_nothing folder old new writes)
  there other old new (inr other_place) wrote =
      by_parts old new (apart_keeps_parts folder other old new other_place wrote) (apart_loses_nothing folder other old new other_place wrote)

  -- and so is what a pack writes
  packed_there : (other : List ℕ) (old new : History) → IsThisOrApart folder other → Wrote (IsPackWrite other) old new → Keeps folders folder old new
  packed_there other old new (inl same) wrote =
      let writes = subst (λ (f : List ℕ). Wrote (IsPackWrite f) old new) same wrote in
      by_parts old new (pack_keeps_parts folder old new writes) (pack_loses_nothing folder old new writes)
  packed_there other old new (inr other_place) wrote =
      by_parts old new (pack_apart_keeps_parts folder other old new other_place wrote) (pack_apart_loses_nothing folder other old new other_place wrote)

  -- a fetch and a pull keep their own folder; a push keeps the peer, if it is from a sound folder
  written : (command : PeerCommand) (pair : FolderPair) (old new : History) → (command ≡ Push → Contains folders pair.peer → Contains folders pair.own)
      → written_by command pair ≡ folder → WroteBy (ExchangeWrites command pair) old new → Keeps folders folder old new
  written (Fetch remote) pair old new from same wrote = subst (λ (f : List ℕ). Contains folders f → Keeps folders f old new) same at_own is
    where
      at_own : Contains folders pair.own → Keeps folders pair.own old new
      at_own here = record {
        sound = λ all. (exchange_stays_sound (Fetch remote) pair old new wrote).written.whole (all pair.own here);
        kept = exchange_loses_nothing (Fetch remote) pair old new wrote;
      }
  written (Pull remote) pair old new from same wrote = subst (λ (f : List ℕ). Contains folders f → Keeps folders f old new) same at_own is
    where
      at_own : Contains folders pair.own → Keeps folders pair.own old new
      at_own here = record {
        sound = λ all. (exchange_stays_sound (Pull remote) pair old new wrote).written.whole (all pair.own here);
        kept = exchange_loses_nothing (Pull remote) pair old new wrote;
      }
  written Push pair old new from same wrote = subst (λ (f : List ℕ). Contains folders f → Keeps folders f old new) same at_peer is
    where
      at_peer : Contains folders pair.peer → Keeps folders pair.peer old new
      at_peer here = record {
        sound = λ all. (exchange_stays_sound Push pair old new wrote).written.whole (all pair.own (from refl here)) (all pair.peer here);
        kept = exchange_loses_nothing Push pair old new wrote;
      }

  exchanged : (command : PeerCommand) (pair : FolderPair) (old new : History) → (command ≡ Push → Contains folders pair.peer → Contains folders pair.own)
      → IsThisOrApart folder (written_by command pair) → WroteBy (ExchangeWrites command pair) old new → Keeps folders folder old new
  exchanged command pair old new from (inl same) wrote = written command pair old new from same wrote
  exchanged command pair old new from (inr other) wrote =
      let kept = exchange_leaves_apart command pair folder old new other wrote in by_parts old new kept.0 kept.1

  -- what is written for arguments that stay among the folders keeps each of these
  asked_keeps : (asks : Asked) (moment : Moment) (old new : History) → StaysAmong folders asks → WroteBy (AskedWrites asks moment) old new → Keeps folders folder old new
  asked_keeps asked.Nothing moment old new place wrote =
      there folder old new (inl refl) (WroteBy-wider (AskedWrites asked.Nothing moment) (at_moment (IsWrite folder)) old new (λ (earlier : List Change) (change : Change) none. absurd none) wrote)
  asked_keeps (asked.Refused bad) moment old new place wrote =
      there folder old new (inl refl) (WroteBy-wider (AskedWrites (asked.Refused bad) moment) (at_moment (IsWrite folder)) old new (λ (earlier : List Change) (change : Change) none. absurd none) wrote)
  asked_keeps (asked.Request request) moment old new place wrote =
      let at = this_or_apart request.folder place in
      elim (of_kinds request moment old new wrote) [
        | inl writes ↦ there request.folder old new at writes
        | inr packs ↦ packed_there request.folder old new at packs
      ]
  asked_keeps (asked.Exchange request) moment old new place wrote =
      exchanged request.command request.pair old new place.1 (this_or_apart (written_by request.command request.pair) place.0) wrote
  asked_keeps (asked.Merge request) moment old new place wrote = there request.folder old new (this_or_apart request.folder place) wrote
  asked_keeps (asked.List request) moment old new place wrote = there request.folder old new (this_or_apart request.folder place) (of_rows request.folder old new wrote)

  -- a run keeps each of these folders at the moment where it stops
  run_keeps : (old new : History) → IsRun folders old new → (AreAllSound folders (files_of old) → IsSound folder (files_of new)) × LosesNothing folder (files_of old) (files_of new)
  run_keeps old new run =
      let call = call_of true run.sink_tells run.takes_memory (asked_of run.words) run.moment in
      let kept = asked_keeps (asked_of run.words) run.moment old run.end run.place (run_wrote call old run.end run.before run.after run.status refl run.answers) in
      ((λ all. (kept.sound all).each new run.stop), kept.kept.each new run.stop)

  -- any number of runs lose nothing
  pub runs_lose_nothing : (old new : History) → Runs folders old new → LosesNothing folder (files_of old) (files_of new)
  runs_lose_nothing old new nothing = LosesNothing-none folder (files_of old)
  runs_lose_nothing old end (one_more mid new runs run) =
      LosesNothing-then folder (files_of old) (files_of mid) (files_of new) (runs_lose_nothing old mid runs) (run_keeps mid new run).1

module _ (folders : List (List ℕ)) (apart : AreApart folders) where
  -- any number of runs keep the folders sound
  pub runs_keep_sound : (old new : History) → Runs folders old new → AreAllSound folders (files_of old) → AreAllSound folders (files_of new)
  runs_keep_sound old new nothing all = all
  runs_keep_sound old end (one_more mid new runs run) all = λ folder is. (run_keeps folders apart folder is mid new run).0 (runs_keep_sound old mid runs all)

  -- from no files at all each of these folders is sound
  pub runs_from_nothing : (new : History) → Runs folders [] new → AreAllSound folders (files_of new)
  runs_from_nothing new runs = runs_keep_sound [] new runs (λ folder is. empty_is_sound folder (files_of []) (λ place. refl))

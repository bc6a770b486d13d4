-- What a command with a peer writes, and what that keeps.
use Rattle.std.proofs.Common.{inl, inr, ◌++◌, ℕ, List, [], ◌∷◌, refl}
use Rattle.gb_text.specs.Overlap.{Overlap}
use Rattle.gb_text.proofs.PathLemmas.{Overlap-mutual}
use Rattle.gb_store.specs.Files.{History, files_of, written}
use Rattle.gb_store.specs.Moments.{AllMoments, WroteBy}
use Rattle.gb_store.specs.declared.store.Change.{Change}
use Rattle.gb_store.proofs.MomentLemmas.{AllMoments-from_WroteBy, Wrote-one}
use Rattle.repo_state.specs.Sound.{HasPart, KeepsParts, Part}
use Rattle.repo_writes.specs.Kept.{LosesNothing}
use Rattle.repo_writes.specs.Kinds.{IsWrite}
use Rattle.repo_writes.proofs.KeptLemmas.{LosesNothing-none, LosesNothing-then, loses_nothing, rule_keeps_parts, rule_loses_nothing}
use Rattle.repo_writes.proofs.SoundLemmas.{keeps-part, keeps_sound, write-place}
use Rattle.repo_writes.proofs.StayLemmas.{IsAtPlace}
use Rattle.sync_writes.proofs.ApartLemmas.{fetch_leaves, push_leaves}
use Rattle.sync_writes.proofs.FetchKeptLemmas.{fetch-keeps, fetch-loses_nothing, fetch_keeps_parts, fetch_loses_nothing}
use Rattle.sync_writes.proofs.PlaceLemmas.{fetch-place}
use Rattle.sync_writes.proofs.PushKeptLemmas.{push_keeps_parts, push_keeps_sound, push_loses_nothing}
use Rattle.words.specs.declared.pair.FolderPair.{FolderPair}
use Rattle.words.specs.declared.words.PeerCommand.{PeerCommand}
use Rattle.words.specs.declared.words.PeerCommand.TheVariants.{Fetch, Pull, Push}
use Rattle.words.proofs.PairLemmas.{apart_of}
use Rattle.remote_name.specs.declared.remote.RemoteName.{RemoteName}
use Rattle.bug_run.specs.Exchanges.{ExchangeStaysSound, ExchangeWrites, StaysSound, written_by}

-- the folders of a pair do not overlap, either way
pub apart : (pair : FolderPair) → Overlap pair.own pair.peer → ⊥
apart pair = apart_of pair.own pair.peer pair.apart

apart_back : (pair : FolderPair) → Overlap pair.peer pair.own → ⊥
apart_back pair overlap = apart pair (Overlap-mutual pair.peer pair.own overlap)

-- a folder whose parts are kept stays sound
stays_sound : (folder : List ℕ) (old new : History) → KeepsParts folder old new → StaysSound folder old new
stays_sound folder old new parts = record { parts = parts; whole = keeps_sound folder old new parts }

-- a write of a kind loses nothing
one_loses_nothing : (folder : List ℕ) (now : History) (change : Change) → IsWrite folder (files_of now) change → LosesNothing folder (files_of now) (written (files_of now) change)
one_loses_nothing folder now change may =
    (loses_nothing folder now (change ∷ now) (Wrote-one (IsWrite folder) change now (change ∷ now) may (inr refl))).each (change ∷ now)
    (record { later = []; done = change ∷ []; before = refl; after = refl })

-- ---- pulls, each of whose writes is of a fetch or of a kind

module _ (remote : RemoteName) (pair : FolderPair) (old new : History) (wrote : WroteBy (ExchangeWrites (Pull remote) pair) old new) where
  abbrev Rule : History → List Change → Change → Type 0
  Rule = ExchangeWrites (Pull remote) pair

  pull_keeps_parts : KeepsParts pair.own old new
  pull_keeps_parts = λ part good. AllMoments-from_WroteBy Rule (HasPart part pair.own) old new (keeps part) good wrote
    where
      keeps : (part : Part) (earlier : List Change) (change : Change) → HasPart part pair.own (files_of (earlier ++ old)) → Rule old earlier change → HasPart part pair.own (written (files_of (earlier ++ old)) change)
      keeps part earlier change has (inl fetched) = fetch-keeps pair.own pair.peer remote old earlier change part has fetched
      keeps part earlier change has (inr merged) = keeps-part pair.own (files_of (earlier ++ old)) change part has merged

  pull_loses_nothing : AllMoments (LosesNothing pair.own (files_of old)) old new
  pull_loses_nothing = AllMoments-from_WroteBy Rule (LosesNothing pair.own (files_of old)) old new (λ earlier change so_far may.
      LosesNothing-then pair.own (files_of old) (files_of (earlier ++ old)) (written (files_of (earlier ++ old)) change) so_far (loses earlier change may))
      (LosesNothing-none pair.own (files_of old)) wrote
    where
      loses : (earlier : List Change) (change : Change) → Rule old earlier change → LosesNothing pair.own (files_of (earlier ++ old)) (written (files_of (earlier ++ old)) change)
      loses earlier change (inl fetched) = fetch-loses_nothing pair.own pair.peer remote old earlier change fetched
      loses earlier change (inr merged) = one_loses_nothing pair.own (earlier ++ old) change merged

  places : (entry : History) (earlier : List Change) (change : Change) → Rule entry earlier change → IsAtPlace pair.own change
  places entry earlier change (inl fetched) = fetch-place pair.own pair.peer remote entry earlier change fetched
  places entry earlier change (inr merged) = write-place pair.own (files_of (earlier ++ entry)) change merged

  pull_leaves : (folder : List ℕ) → (Overlap folder pair.own → ⊥) → KeepsParts folder old new × AllMoments (LosesNothing folder (files_of old)) old new
  pull_leaves folder other = (rule_keeps_parts Rule folder pair.own other places old new wrote, rule_loses_nothing Rule folder pair.own other places old new wrote)

-- ---- what is kept

-- what a command with a peer writes keeps both folders
pub exchange_stays_sound : (command : PeerCommand) (pair : FolderPair) (old new : History) → WroteBy (ExchangeWrites command pair) old new
    → ExchangeStaysSound command pair old new
exchange_stays_sound (Fetch remote) pair old new wrote = record {
  written = stays_sound pair.own old new (fetch_keeps_parts pair.own pair.peer remote old new wrote);
  only_read = stays_sound pair.peer old new (fetch_leaves pair.own pair.peer pair.peer remote old new (apart_back pair) wrote).0;
}
exchange_stays_sound (Pull remote) pair old new wrote = record {
  written = stays_sound pair.own old new (pull_keeps_parts remote pair old new wrote);
  only_read = stays_sound pair.peer old new (pull_leaves remote pair old new wrote pair.peer (apart_back pair)).0;
}
exchange_stays_sound Push pair old new wrote =
    let kept = push_keeps_parts pair.own pair.peer old new (apart pair) wrote in
    record {
      written = record { parts = kept; whole = push_keeps_sound pair.own pair.peer old new kept };
      only_read = stays_sound pair.own old new (push_leaves pair.own pair.peer pair.own old new (apart pair) wrote).0;
    }

-- in the folder in which it writes it loses nothing
pub exchange_loses_nothing : (command : PeerCommand) (pair : FolderPair) (old new : History) → WroteBy (ExchangeWrites command pair) old new
    → AllMoments (LosesNothing (written_by command pair) (files_of old)) old new
exchange_loses_nothing (Fetch remote) pair old new wrote = fetch_loses_nothing pair.own pair.peer remote old new wrote
exchange_loses_nothing (Pull remote) pair old new wrote = pull_loses_nothing remote pair old new wrote
exchange_loses_nothing Push pair old new wrote = push_loses_nothing pair.own pair.peer old new wrote

-- one that does not overlap that folder is kept, and loses nothing
pub exchange_leaves_apart : (command : PeerCommand) (pair : FolderPair) (folder : List ℕ) (old new : History) → (Overlap folder (written_by command pair) → ⊥)
    → WroteBy (ExchangeWrites command pair) old new → KeepsParts folder old new × AllMoments (LosesNothing folder (files_of old)) old new
exchange_leaves_apart (Fetch remote) pair folder old new other wrote = fetch_leaves pair.own pair.peer folder remote old new other wrote
exchange_leaves_apart (Pull remote) pair folder old new other wrote = pull_leaves remote pair old new wrote folder other
exchange_leaves_apart Push pair folder old new other wrote = push_leaves pair.own pair.peer folder old new other wrote

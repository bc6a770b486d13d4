-- Writes in one folder leave each ref of a folder apart from it; and rows and packs leave each ref of their own.
use Rattle.std.proofs.Common.{◌≡◌, refl, ◌∙◌, ap, ℕ, List, ◌++◌}
use Rattle.gb_text.specs.Overlap.{Overlap}
use Rattle.gb_text.specs.declared.id.Id.{Id}
use Rattle.gb_store.specs.Files.{History, files_of, written}
use Rattle.gb_store.specs.Moments.{Wrote, WroteBy}
use Rattle.gb_store.specs.declared.store.Change.{Change}
use Rattle.gb_store.proofs.MomentLemmas.{AllMoments-from_WroteBy}
use Rattle.ref_packing.specs.Kinds.{IsPackWrite}
use Rattle.ref_packing.proofs.RefLemmas.{moments_keep}
use Rattle.ref_store.specs.Refs.{packed_place}
use Rattle.ref_store.proofs.FrameLemmas.{same_ref}
use Rattle.remote_name.specs.declared.remote.RemoteName.{RemoteName}
use Rattle.repo_state.specs.Sides.{head_at, ref_place}
use Rattle.repo_state.specs.declared.side.Side.{Side}
use Rattle.repo_state.proofs.KindLemmas.{head_at-row_write}
use Rattle.repo_state.proofs.PlaceLemmas.{ref-not_packed}
use Rattle.gb_text.specs.Folder.{joined}
use Rattle.repo_writes.specs.Kinds.{IsRowWrite, IsWrite}
use Rattle.repo_writes.proofs.PackLemmas.{pack_apart}
use Rattle.repo_writes.proofs.SoundLemmas.{write-place}
use Rattle.repo_writes.proofs.StayLemmas.{FilesStay, plain_ref, stay-apart}
use Rattle.row_text.specs.Rows.{row_text}
use Rattle.sync_writes.specs.Kinds.{FetchWrites, PushWrites}
use Rattle.sync_writes.proofs.PlaceLemmas.{fetch-place, push-place}
use Rattle.ref_moments.specs.Once.{StaysSame}
use Rattle.ref_moments.proofs.OnceLemmas.{stays_by}

module _ (Rule : History → List Change → Change → Type 0) (folder : List ℕ) (of : Side) (id : Id) (old new : History)
    (stay : (earlier : List Change) (change : Change) → Rule old earlier change → FilesStay folder (files_of (earlier ++ old)) (written (files_of (earlier ++ old)) change)) where
  -- each write leaves the files of the folder, and so its refs
  pub files_stay : WroteBy Rule old new → StaysSame folder of id old new
  files_stay wrote = AllMoments-from_WroteBy Rule (λ files. head_at files folder of id ≡ head_at (files_of old) folder of id) old new each refl wrote
    where
      each : (earlier : List Change) (change : Change) → head_at (files_of (earlier ++ old)) folder of id ≡ head_at (files_of old) folder of id → Rule old earlier change
          → head_at (written (files_of (earlier ++ old)) change) folder of id ≡ head_at (files_of old) folder of id
      each earlier change same may =
          let files = files_of (earlier ++ old) in
          let stays = stay earlier change may in
          same_ref (written files change) files folder (ref_place of id) (stays (ref_place of id) (plain_ref of id)) (stays packed_place refl) ∙ same

module _ (folder other : List ℕ) (apart : Overlap folder other → ⊥) (of : Side) (id : Id) (old new : History) where
  -- writes of the kinds of another folder
  pub kinds_apart : Wrote (IsWrite other) old new → StaysSame folder of id old new
  kinds_apart wrote =
      files_stay (λ entry earlier change. IsWrite other (files_of (earlier ++ entry)) change) folder of id old new
      (λ earlier change write. stay-apart folder other apart (files_of (earlier ++ old)) change (write-place other (files_of (earlier ++ old)) change write)) wrote

  -- a pack there
  pub pack_stays_apart : Wrote (IsPackWrite other) old new → StaysSame folder of id old new
  pack_stays_apart wrote =
      files_stay (λ entry earlier change. IsPackWrite other (files_of (earlier ++ entry)) change) folder of id old new
      (λ earlier change write. pack_apart folder other apart (files_of (earlier ++ old)) change write) wrote

  -- a fetch there
  pub fetch_apart : (peer : List ℕ) (remote : RemoteName) → WroteBy (FetchWrites other peer remote) old new → StaysSame folder of id old new
  fetch_apart peer remote wrote =
      files_stay (FetchWrites other peer remote) folder of id old new
      (λ earlier change write. stay-apart folder other apart (files_of (earlier ++ old)) change (fetch-place other peer remote old earlier change write)) wrote

  -- a push into it
  pub push_apart : (own : List ℕ) → Wrote (PushWrites own other) old new → StaysSame folder of id old new
  push_apart own wrote =
      files_stay (λ entry earlier change. PushWrites own other (files_of (earlier ++ entry)) change) folder of id old new
      (λ earlier change write. stay-apart folder other apart (files_of (earlier ++ old)) change (push-place own other (files_of (earlier ++ old)) change write)) wrote

-- rows leave each ref
pub rows_stay : (folder : List ℕ) (of : Side) (id : Id) (old new : History) → Wrote (IsRowWrite folder) old new → StaysSame folder of id old new
rows_stay folder of id old new wrote =
    stays_by folder of id (IsRowWrite folder)
    (λ files change row. ap (λ (c : Change). head_at (written files c) folder of id) row.write ∙ head_at-row_write files folder of id row.id (row_text row.row)) old new wrote

-- and so does a pack
pub pack_stays : (folder : List ℕ) (of : Side) (id : Id) (old new : History) → Wrote (IsPackWrite folder) old new → StaysSame folder of id old new
pack_stays folder of id old new wrote = moments_keep folder old new (ref_place of id) wrote (λ same. ref-not_packed folder of id (ap (joined folder) same))

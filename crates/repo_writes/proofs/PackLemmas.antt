-- A write of a pack changes nothing that a folder says; so a pack keeps each part, loses nothing, and leaves folders apart.
use Rattle.std.proofs.Common.{◌≡◌, ◌≢◌, ◌⊎◌, inl, inr, ℕ, false, List, ◌++◌, refl, sym, ◌∙◌, ap, arith}
use Rattle.std.specs.Prelude.{slice_index}
use Rattle.gb_text.specs.Digits.{IsId}
use Rattle.gb_text.specs.Folder.{is_rooted, joined}
use Rattle.gb_text.specs.Overlap.{Overlap}
use Rattle.gb_text.specs.declared.id.Id.{Id}
use Rattle.gb_store.specs.Files.{Files, History, files_of, written}
use Rattle.gb_store.specs.Moments.{AllMoments, Wrote, at_moment}
use Rattle.gb_store.specs.ObjectPath.{object_place}
use Rattle.gb_store.specs.declared.store.Change.{Change}
use Rattle.gb_store.proofs.FrameLemmas.{written-apart}
use Rattle.gb_store.proofs.MomentLemmas.{AllMoments-from_Wrote}
use Rattle.excerpt_cache.specs.Rows.{row_place}
use Rattle.ref_store.specs.Listing.{id_place}
use Rattle.ref_store.specs.Refs.{packed_place}
use Rattle.ref_packing.specs.Kinds.{IsPackWrite}
use Rattle.ref_packing.specs.Packing.{IsPlace as IsTakenPlace}
use Rattle.ref_packing.proofs.PlaceLemmas.{dir_cases, pack-elsewhere, pack-place, pack-reads, place_first}
use Rattle.ref_packing.proofs.RefLemmas.{write_keeps}
use Rattle.repo_state.specs.Clocks.{clock_at, clock_in, clock_place}
use Rattle.repo_state.specs.Sides.{head_at, ref_place}
use Rattle.repo_state.specs.Sound.{HasPart, KeepsParts}
use Rattle.repo_state.specs.Users.{user_place}
use Rattle.repo_state.specs.declared.clocks.ClockFile.{ClockFile}
use Rattle.repo_state.specs.declared.clocks.ClockFile.TheVariants as file
use Rattle.repo_state.specs.declared.side.Side.{Side}
use Rattle.repo_state.specs.declared.side.Side.TheVariants as side
use Rattle.repo_state.proofs.KindLemmas.{stored_row-same, user_at-same}
use Rattle.repo_state.proofs.PlaceLemmas.{ref-not_packed}
use Rattle.repo_writes.specs.Kept.{IsOwnSide, LosesNothing}
use Rattle.repo_writes.proofs.KeptLemmas.{LosesNothing-none, LosesNothing-then, stay_keeps_parts, stay_loses_nothing}
use Rattle.repo_writes.proofs.StayLemmas.{FilesStay, LosesNothing-same, SaysSame, part-same, plain_ref}

-- the place of a ref of a bug or of an identity
abbrev IsOwnRefPlace : List ℕ → Type 0
IsOwnRefPlace place = (of : Side) × (id : Id) × IsOwnSide of × IsId id × (place ≡ ref_place of id)

-- a ref that a pack takes has such a place
taken_place : (name : List ℕ) → IsTakenPlace name → IsOwnRefPlace name
taken_place name at = elim (dir_cases at.dir at.of) [
  | inl bugs ↦ (side.Bugs, at.id, tt, at.is_id, at.is_place ∙ ap (λ (dir : List ℕ). id_place dir at.id) (sym bugs))
  | inr people ↦ (side.Identities, at.id, tt, at.is_id, at.is_place ∙ ap (λ (dir : List ℕ). id_place dir at.id) (sym people))
]

taken_plain : (name : List ℕ) → IsTakenPlace name → is_rooted name ≡ false
taken_plain name at = by (taken_place name at)
  where
    by : IsOwnRefPlace name → is_rooted name ≡ false
    by (of, id, own, is_id, is) = ap is_rooted is ∙ plain_ref of id

-- a write of a pack is at the place of the packed refs or of such a ref
pub pack_places : (folder : List ℕ) (files : Files) (change : Change) → IsPackWrite folder files change
    → (change.path ≡ joined folder packed_place) ⊎ ((of : Side) × (id : Id) × IsOwnSide of × IsId id × (change.path ≡ joined folder (ref_place of id)))
pack_places folder files change wrote = elim (pack-place folder files change wrote) [
  | inl is ↦ inl is
  | inr at ↦ let own = taken_place at.0 at.1 in inr (own.0, own.1, own.2, own.3, at.2 ∙ ap (joined folder) own.4)
]

-- so it leaves the files of a folder apart
pub pack_apart : (folder other : List ℕ) → (Overlap folder other → ⊥) → (files : Files) (change : Change) → IsPackWrite other files change → FilesStay folder files (written files change)
pack_apart folder other apart files change wrote = λ rest plain.
    elim (pack-place other files change wrote) [
      | inl is ↦ written-apart files change folder other packed_place rest is refl plain apart
      | inr at ↦ written-apart files change folder other at.0 rest at.2 (taken_plain at.0 at.1) plain apart
    ]

module _ (folder : List ℕ) (files : Files) (change : Change) (wrote : IsPackWrite folder files change) where
  -- a file stays whose place begins neither as that of the packed refs nor as those of refs
  stays : (rest : List ℕ) → slice_index rest 0 ≢ 112 → slice_index rest 0 ≢ 114 → written files change (joined folder rest) ≡ files (joined folder rest)
  stays rest packed ref = pack-elsewhere folder files change wrote rest (λ e. packed (ap (λ (place : List ℕ). slice_index place 0) (sym e))) (λ at. ref (place_first rest at))

  -- each ref stays
  head : (of : Side) (id : Id) → head_at (written files change) folder of id ≡ head_at files folder of id
  head of id = write_keeps folder files change (ref_place of id) wrote (λ e. ref-not_packed folder of id (ap (joined folder) e))

  -- and each clock
  clock : (which : ClockFile) → clock_at (written files change) folder which ≡ clock_at files folder which
  clock file.BugsCreate = ap clock_in (stays (clock_place file.BugsCreate) (λ e. omega arith) (λ e. omega arith))
  clock file.BugsEdit = ap clock_in (stays (clock_place file.BugsEdit) (λ e. omega arith) (λ e. omega arith))

  -- and all that the folder says
  pub pack-says_same : SaysSame folder files (written files change)
  pack-says_same = record {
    objects = λ i name. stays (object_place name) (λ e. omega arith) (λ e. omega arith) i;
    heads = head;
    user = user_at-same files (written files change) folder (stays user_place (λ e. omega arith) (λ e. omega arith)) (head side.Identities);
    clocks = clock;
    rows = λ id. stored_row-same files (written files change) folder id (stays (row_place id) (λ e. omega arith) (λ e. omega arith));
    packed = pack-reads folder files change wrote;
  }

-- ---- over the writes of a pack

-- a pack keeps each part at each moment
pub pack_keeps_parts : (folder : List ℕ) (old new : History) → Wrote (IsPackWrite folder) old new → KeepsParts folder old new
pack_keeps_parts folder old new wrote = λ part good.
    AllMoments-from_Wrote (IsPackWrite folder) (HasPart part folder)
    (λ files change has may. part-same folder files (written files change) (pack-says_same folder files change may) part has) old new good wrote

-- and loses nothing
pub pack_loses_nothing : (folder : List ℕ) (old new : History) → Wrote (IsPackWrite folder) old new → AllMoments (LosesNothing folder (files_of old)) old new
pack_loses_nothing folder old new wrote =
    AllMoments-from_Wrote (IsPackWrite folder) (LosesNothing folder (files_of old))
    (λ files change so_far may.
    LosesNothing-then folder (files_of old) files (written files change) so_far
    (LosesNothing-same folder files (written files change) (pack-says_same folder files change may))) old new
    (LosesNothing-none folder (files_of old)) wrote

module _ (folder other : List ℕ) (old new : History) (apart : Overlap folder other → ⊥) (wrote : Wrote (IsPackWrite other) old new) where
  stay : (earlier : List Change) (change : Change) → IsPackWrite other (files_of (earlier ++ old)) change
      → FilesStay folder (files_of (earlier ++ old)) (written (files_of (earlier ++ old)) change)
  stay earlier change write = pack_apart folder other apart (files_of (earlier ++ old)) change write

  -- a folder apart from it keeps each part too
  pub pack_apart_keeps_parts : KeepsParts folder old new
  pack_apart_keeps_parts = stay_keeps_parts (at_moment (IsPackWrite other)) folder old new stay wrote

  -- and loses nothing
  pub pack_apart_loses_nothing : AllMoments (LosesNothing folder (files_of old)) old new
  pack_apart_loses_nothing = stay_loses_nothing (at_moment (IsPackWrite other)) folder old new stay wrote

-- What a write of a pack leaves: each file but the packed refs and those of the refs that it takes, and packed refs that read.
use Rattle.std.proofs.Common.{◌≡◌, ◌≢◌, ◌⊎◌, inl, inr, ℕ, suc, zero, true, List, codes, Contains, sym, ◌∙◌, ap, subst, arith}
use Rattle.std.specs.Prelude.{slice_index}
use Rattle.gb_text.specs.Folder.{joined}
use Rattle.gb_store.specs.Files.{Files, Put, written}
use Rattle.gb_store.specs.declared.store.Change.{Change}
use Rattle.gb_store.proofs.FrameLemmas.{written-beside, written-same}
use Rattle.ref_store.specs.Listing.{id_place}
use Rattle.ref_store.specs.Refs.{packed_place, packed_reads, reads_as_packed}
use Rattle.ref_store.proofs.FrameLemmas.{packed_reads-other}
use Rattle.ref_packing.specs.Kinds.{IsPackWrite, a_loose_removal, a_packed_put}
use Rattle.ref_packing.specs.Packing.{IsPlace, packed_dirs}
use Rattle.ref_packing.proofs.RefLemmas.{place_is_not_packed}

-- the dirs whose refs are packed are two
pub dir_cases : (dir : List ℕ) → Contains packed_dirs dir → (codes "refs/bugs" ≡ dir) ⊎ (codes "refs/identities" ≡ dir)
dir_cases dir (zero, below, is) = inl is
dir_cases dir (suc zero, below, is) = inr is
dir_cases dir (suc (suc k), below, is) = absurd (omega (arith, below))

-- so the name of an id's ref begins with an r
pub place_first : (name : List ℕ) → IsPlace name → slice_index name 0 ≡ 114
place_first name at = ap (λ (n : List ℕ). slice_index n 0) at.is_place ∙ first (dir_cases at.dir at.of)
  where
    first : (codes "refs/bugs" ≡ at.dir) ⊎ (codes "refs/identities" ≡ at.dir) → slice_index (id_place at.dir at.id) 0 ≡ 114
    first (inl bugs) = ap (λ (dir : List ℕ). slice_index (id_place dir at.id) 0) (sym bugs)
    first (inr identities) = ap (λ (dir : List ℕ). slice_index (id_place dir at.id) 0) (sym identities)

module _ (folder : List ℕ) (files : Files) (change : Change) where
  -- a write of a pack is of the packed refs or of the file of an id's ref
  pub pack-place : IsPackWrite folder files change → (change.path ≡ joined folder packed_place) ⊎ ((name : List ℕ) × IsPlace name × (change.path ≡ joined folder name))
  pack-place (a_packed_put w) = inl (ap (λ (c : Change). c.path) w.write)
  pack-place (a_loose_removal w) = inr (w.name, w.place, ap (λ (c : Change). c.path) w.write)

  -- so each other file below the folder stays
  pub pack-elsewhere : IsPackWrite folder files change → (rest : List ℕ) → packed_place ≢ rest → (IsPlace rest → ⊥) → written files change (joined folder rest) ≡ files (joined folder rest)
  pack-elsewhere wrote rest packed none = elim (pack-place wrote) [
    | inl is ↦ written-beside files change folder packed_place rest is packed
    | inr at ↦ written-beside files change folder at.0 rest at.2 (λ same. none (subst IsPlace same at.1))
  ]

  -- and packed refs that read do so after it
  pub pack-reads : IsPackWrite folder files change → packed_reads files folder ≡ true → packed_reads (written files change) folder ≡ true
  pack-reads (a_packed_put w) before =
      ap (λ (c : Change). reads_as_packed (written files c (joined folder packed_place))) w.write
      ∙ ap reads_as_packed (written-same files (Put (joined folder packed_place) w.text)) ∙ w.reads
  pack-reads (a_loose_removal w) before =
      packed_reads-other files change folder (λ same. place_is_not_packed folder w.name w.place (sym (ap (λ (c : Change). c.path) w.write) ∙ same)) ∙ before

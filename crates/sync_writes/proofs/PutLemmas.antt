-- What an object that is put keeps of its folder, and what a ref reads as after one was set.
use Rattle.std.proofs.Common.{◌≡◌, ◌⊎◌, inl, inr, ℕ, List, [], ◌∷◌, sym, ◌∙◌, ap}
use Rattle.gb_text.specs.Digits.{IsId, IsName}
use Rattle.gb_text.specs.Folder.{joined}
use Rattle.gb_text.specs.declared.id.Id.{Id}
use Rattle.gb_text.specs.declared.id.Name.{Name}
use Rattle.gb_store.specs.Files.{Files, written}
use Rattle.gb_store.specs.declared.store.Change.{Change}
use Rattle.ref_store.specs.Refs.{Head, ref_at}
use Rattle.ref_store.proofs.FrameLemmas.{ref_at-other}
use Rattle.ref_store.specs.Setting.{ref_write}
use Rattle.ref_store.proofs.MapLemmas.{joined-same, set_ref_reads}
use Rattle.remote_copy.specs.NeedWrites.{PutsOneAfterNeeds}
use Rattle.repo_state.specs.Clocks.{clock_at}
use Rattle.repo_state.specs.Sides.{head_at, ref_place}
use Rattle.repo_state.specs.Sound.{HasPart, Part}
use Rattle.repo_state.specs.declared.side.Side.{Side}
use Rattle.repo_state.proofs.KindLemmas.{clock_at-object_write, head_at-object_write}
use Rattle.repo_state.proofs.PlaceLemmas.{ref-not_packed, ref_place-same, ref_place-side, same_or_other}
use Rattle.repo_writes.specs.Kept.{LosesNothing}
use Rattle.repo_writes.specs.Kinds.{IsWrite, an_object}
use Rattle.repo_writes.proofs.SoundLemmas.{keeps-part, write-grew}
use Rattle.repo_writes.proofs.StayLemmas.{nothing_lost}

-- ---- an object that is put

-- one object that is put is a write of an object
pub put-write : (folder : List ℕ) (files : Files) (change : Change) → PutsOneAfterNeeds folder files change → IsWrite folder files change
put-write folder files change puts = an_object (record { texts = puts.0 ∷ []; puts = puts.1 })

module _ (folder : List ℕ) (files : Files) (change : Change) (puts : PutsOneAfterNeeds folder files change) where
  -- each part stays
  pub put-keeps : (part : Part) → HasPart part folder files → HasPart part folder (written files change)
  put-keeps part has = keeps-part folder files change part has (put-write folder files change puts)

  -- and nothing is lost
  pub put-loses_nothing : LosesNothing folder files (written files change)
  put-loses_nothing =
      nothing_lost folder files (written files change) (write-grew folder files change (put-write folder files change puts))
      (λ of own id. ap (λ (c : Change). head_at (written files c) folder of id) puts.1.write ∙ head_at-object_write files folder puts.1.text of id)
      (λ which. ap (λ (c : Change). clock_at (written files c) folder which) puts.1.write ∙ clock_at-object_write files folder puts.1.text which)

-- ---- a ref that is set

-- a ref then reads as before, or it is that one and reads as the head
pub head_at-set : (files : Files) (folder : List ℕ) (of on : Side) (id other : Id) (head : Name) → IsId id → IsId other → IsName head
    → (head_at (written files (ref_write folder (ref_place of id) head)) folder on other ≡ head_at files folder on other)
    ⊎ ((of ≡ on) × (id ≡ other) × (head_at (written files (ref_write folder (ref_place of id) head)) folder on other ≡ Head head))
head_at-set files folder of on id other head is_id is_other is_head = elim (same_or_other (joined folder (ref_place of id)) (joined folder (ref_place on other))) [
  | inl path ↦
      let places : ref_place of id ≡ ref_place on other = joined-same folder (ref_place of id) (ref_place on other) path in
      let same : of ≡ on = ref_place-side of on id other places in
      inr (
        same,
        ref_place-same on id other is_id is_other (ap (λ (s : Side). ref_place s id) (sym same) ∙ places),
        ap (ref_at (written files (ref_write folder (ref_place of id) head)) folder) (sym places) ∙ set_ref_reads files folder (ref_place of id) head is_head,
      )
  | inr differ ↦ inl (ref_at-other files (ref_write folder (ref_place of id) head) folder (ref_place on other) differ (ref-not_packed folder of id))
]

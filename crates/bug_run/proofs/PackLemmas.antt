-- Packs of refs: what they write, that their answer is determined, and that a sound folder has no bad ref.
use Rattle.std.proofs.Common.{◌≡◌, ◌⊎◌, inl, inr, ℕ, true, false, List, codes, Result, Ok, Err, sym, ◌∙◌, ap, subst}
use Rattle.gb_store.specs.Files.{Files, History, files_of}
use Rattle.gb_store.specs.Moments.{Wrote, at_moment}
use Rattle.gb_store.proofs.MomentLemmas.{WroteBy-none}
use Rattle.ref_store.specs.Listing.{id_place}
use Rattle.ref_store.specs.Refs.{Bad, ref_at}
use Rattle.ref_store.proofs.FrameLemmas.{by_loose}
use Rattle.ref_packing.specs.Answers.{IsBadAt, IsTooLong, Packs}
use Rattle.ref_packing.specs.Kinds.{IsPackWrite}
use Rattle.ref_packing.specs.Packing.{IsBadLoose}
use Rattle.ref_packing.proofs.DeterminedLemmas.{bad_not_long, one_bad, one_count, packs_not_bad, packs_not_long}
use Rattle.ref_packing.proofs.PlaceLemmas.{dir_cases}
use Rattle.ref_packing.proofs.WroteLemmas.{maybe_wrote, packs_wrote}
use Rattle.repo_edit.specs.Packing.{WhyNotPacked}
use Rattle.repo_state.specs.Sides.{head_at}
use Rattle.repo_state.specs.Sound.{IsSound}
use Rattle.repo_state.specs.Sound as part
use Rattle.repo_state.specs.declared.side.Side.TheVariants as side
use Rattle.repo_writes.proofs.PartLemmas.{no_bad_ref}
use Rattle.repo_steps.specs.declared.refusal.Refusal.{Refusal}
use Rattle.repo_steps.specs.declared.refusal.Refusal.TheVariants as refusal
use Rattle.repo_steps.specs.declared.refusal.Stop.{Stop}
use Rattle.repo_steps.specs.declared.refusal.Stop.TheVariants as stop
use Rattle.bug_run.specs.Answer.{Answer}
use Rattle.bug_run.specs.Run.{PackTells}

-- ---- the writes

-- each write is of a pack's kinds
pub pack_wrote : (folder : List ℕ) (old new : History) (result : Result Answer Stop) → PackTells folder old new result → Wrote (IsPackWrite folder) old new
pack_wrote folder old new (Ok said) is = packs_wrote folder old new is.0 is.1
pack_wrote folder old new (Err stop.Memory) is = maybe_wrote folder old new is
pack_wrote folder old new (Err stop.Disk) is = maybe_wrote folder old new is
pack_wrote folder old new (Err (stop.Refused r)) is = WroteBy-none (at_moment (IsPackWrite folder)) old new is.0

-- ---- one answer

pub one_pack_told : (folder : List ℕ) (old elder one two : History) (first second : Answer) → files_of old ≡ files_of elder
    → PackTells folder old one (Ok first) → PackTells folder elder two (Ok second) → first ≡ second
one_pack_told folder old elder one two first second same (count, here, is) (other, there, also) =
    let e : count ≡ other = one_count folder old elder one two count other same here there in
    cc (e, is, also)

-- where refs are packed, nothing refuses that
packs_not_refused : (folder : List ℕ) (old new : History) (count : ℕ) (r : Refusal) → Packs folder old new count → WhyNotPacked folder (files_of old) r → ⊥
packs_not_refused folder old new count r done (inl (at, is, bad)) = packs_not_bad (files_of old) folder at done.taken done.packed done.reads done.are_packed bad
packs_not_refused folder old new count r done (inr (is, long)) = packs_not_long (files_of old) folder done.taken done.packed done.are_packed done.fits long

-- a pack has one refusal
one_why : (folder : List ℕ) (files : Files) (first second : Refusal) → WhyNotPacked folder files first → WhyNotPacked folder files second → first ≡ second
one_why folder files first second (inl (one, is, bad)) (inl (two, also, too)) = is ∙ ap refusal.Damaged (one_bad files folder one two bad too) ∙ sym also
one_why folder files first second (inl (one, is, bad)) (inr (also, long)) = absurd (bad_not_long files folder one bad long)
one_why folder files first second (inr (is, long)) (inl (two, also, bad)) = absurd (bad_not_long files folder two bad long)
one_why folder files first second (inr (is, long)) (inr (also, too)) = is ∙ sym also

pub pack_not_refused : (folder : List ℕ) (old one two : History) (said : Answer) (r : Refusal) → PackTells folder old one (Ok said) → PackTells folder old two (Err (stop.Refused r)) → ⊥
pack_not_refused folder old one two said r (count, done, is) (same, why) = packs_not_refused folder old one count r done why

pub one_pack_refusal : (folder : List ℕ) (old elder one two : History) (first second : Refusal) → files_of old ≡ files_of elder
    → PackTells folder old one (Err (stop.Refused first)) → PackTells folder elder two (Err (stop.Refused second)) → first ≡ second
one_pack_refusal folder old elder one two first second same (unwritten, here) (also, there) =
    one_why folder (files_of old) first second here (subst (λ (f : Files). WhyNotPacked folder f second) (sym same) there)

-- ---- a sound folder

module _ (folder : List ℕ) (files : Files) (sound : IsSound folder files) where
  -- no ref that a pack takes is bad
  none_bad : (name : List ℕ) → IsBadLoose files folder name → ⊥
  none_bad name bad = by (dir_cases bad.place.dir bad.place.of)
    where
      is_bad : ref_at files folder (id_place bad.place.dir bad.place.id) ≡ Bad
      is_bad = subst (λ (n : List ℕ). ref_at files folder n ≡ Bad) bad.place.is_place (by_loose files folder name Bad bad.is_bad)

      by : (codes "refs/bugs" ≡ bad.place.dir) ⊎ (codes "refs/identities" ≡ bad.place.dir) → ⊥
      by (inl bugs) =
          let e : head_at files folder side.Bugs bad.place.id ≡ Bad = subst (λ (dir : List ℕ). ref_at files folder (id_place dir bad.place.id) ≡ Bad) (sym bugs) is_bad in
          (no_bad_ref folder files bad.place.id bad.place.is_id).1 (sound part.Bugs) e
      by (inr people) =
          let e : head_at files folder side.Identities bad.place.id ≡ Bad = subst (λ (dir : List ℕ). ref_at files folder (id_place dir bad.place.id) ≡ Bad) (sym people) is_bad in
          (no_bad_ref folder files bad.place.id bad.place.is_id).0 (sound part.Identities) e

  pub sound_not_bad : (at : List ℕ) → IsBadAt folder files at → ⊥
  sound_not_bad at (inl (is, unread)) = let e : true ≡ false = sym (sound part.Packed) ∙ unread in absurd (cc e)
  sound_not_bad at (inr (name, is, reads, first)) = none_bad name first.is_bad

-- so there a pack is refused for its length alone
pub pack_served : (folder : List ℕ) (old : History) → IsSound folder (files_of old) → (IsTooLong folder (files_of old) → ⊥) → (r : Refusal) → WhyNotPacked folder (files_of old) r → ⊥
pack_served folder old sound fits r (inl (at, is, bad)) = sound_not_bad folder (files_of old) sound at bad
pack_served folder old sound fits r (inr (is, long)) = fits long

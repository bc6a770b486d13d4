-- Nothing but a limit of trees keeps a head of a sound folder from being copied.
use Rattle.std.proofs.Common.{◌≡◌, refl, ap, subst, Bool, ℕ, List, []}
use Rattle.gb_text.specs.Digits.{IsId}
use Rattle.gb_text.specs.declared.id.Id.{Id}
use Rattle.gb_text.specs.declared.id.Name.{Name}
use Rattle.gb_store.specs.Files.{Files}
use Rattle.git_object.specs.declared.frame.Kind.TheVariants as kinds
use Rattle.object_store.specs.Growth.{OnlyGrew}
use Rattle.object_store.specs.Held.{Objects, objects_in}
use Rattle.object_store.proofs.GrowthLemmas.{text_stays}
use Rattle.object_batch.specs.Needs.{IsHeldAs}
use Rattle.dag_entity.specs.Folders.{HaveOneText}
use Rattle.ref_store.specs.Refs.{Bad, Head}
use Rattle.remote_copy.specs.Causes.{CauseHolds}
use Rattle.remote_copy.specs.Closure.{commit_named}
use Rattle.remote_copy.specs.declared.fault.CopyFault.{CopyFault}
use Rattle.remote_copy.specs.declared.fault.CopyFault.TheVariants as fault
use Rattle.repo_state.specs.Sides.{head_at}
use Rattle.repo_state.specs.Sound.{AreWhole, IsSound, IsSoundBug, IsSoundIdentity}
use Rattle.repo_state.specs.Sound as parts
use Rattle.repo_state.proofs.LedLemmas.{led_from_heads}
use Rattle.sync_steps.specs.Carrying.{fault_of}
use Rattle.sync_steps.specs.Places.{local_side}
use Rattle.sync_steps.specs.declared.line.CopyCause.{CopyCause}
use Rattle.sync_steps.specs.declared.line.CopyCause.TheVariants as cause
use Rattle.sync_steps.specs.declared.line.EntityWord.{EntityWord}
use Rattle.sync_steps.specs.declared.line.EntityWord.TheVariants as word
use Rattle.copy_limits.specs.Commits.{HasFewCommits, HasNoRing}
use Rattle.copy_limits.specs.Flat.{HasFlatTrees}
use Rattle.copy_limits.specs.Limits.{IsTreeLimit}
use Rattle.copy_limits.proofs.RingLemmas.{bug_few, bug_no_ring, identity_few, identity_no_ring}
use Rattle.copy_limits.proofs.WholeLemmas.{limit_alone, none_alone}

-- the refusal of a copy is that of a limit only where a line tells it so
pub told_limit : (why : CopyCause) (count : ℕ) → fault_of why ≡ fault.TooLarge count → why ≡ cause.TooLarge count
told_limit (cause.Missing name) count e = absurd (cc e)
told_limit (cause.Damaged name) count e = absurd (cc e)
told_limit (cause.WrongKind name) count e = absurd (cc e)
told_limit (cause.TooLarge n) count e = let same : n ≡ count = cc e in ap cause.TooLarge same
told_limit (cause.Ring name) count e = absurd (cc e)
told_limit (cause.Taken name) count e = absurd (cc e)

-- stores have one text each if later ones have
pub one_text_before : (one two later others : Objects) → OnlyGrew one later → OnlyGrew two others → HaveOneText later others → HaveOneText one two
one_text_before one two later others grew also alike name a b at there = alike name a b (text_stays one later grew name a at) (text_stays two others also name b there)

module _ (folder : List ℕ) (files : Files) (sound : IsSound folder files) (id : Id) (is : IsId id) where
  -- no ref of a sound folder is bad
  pub no_bad_ref : (kind : EntityWord) → head_at files folder (local_side kind) id ≡ Bad → ⊥
  no_bad_ref word.Identity bad = subst (IsSoundIdentity (objects_in files folder) id) bad (sound parts.Identities id is)
  no_bad_ref word.Bug bad = subst (IsSoundBug (objects_in files folder) id) bad (sound parts.Bugs id is)

  -- below the head of each there is no ring
  head_no_ring : (kind : EntityWord) (head : Name) → head_at files folder (local_side kind) id ≡ Head head → HasNoRing (objects_in files folder) head
  head_no_ring word.Identity head at = identity_no_ring (objects_in files folder) id head (subst (IsSoundIdentity (objects_in files folder) id) at (sound parts.Identities id is))
  head_no_ring word.Bug head at = bug_no_ring (objects_in files folder) id head (subst (IsSoundBug (objects_in files folder) id) at (sound parts.Bugs id is))

  -- nor too many commits
  head_few : (kind : EntityWord) (head : Name) → head_at files folder (local_side kind) id ≡ Head head → HasFewCommits (objects_in files folder) head
  head_few word.Identity head at = identity_few (objects_in files folder) id head (subst (IsSoundIdentity (objects_in files folder) id) at (sound parts.Identities id is))
  head_few word.Bug head at = bug_few (objects_in files folder) id head (subst (IsSoundBug (objects_in files folder) id) at (sound parts.Bugs id is))

  -- and the head is held
  head_held : (kind : EntityWord) (head : Name) → head_at files folder (local_side kind) id ≡ Head head → IsHeldAs (objects_in files folder) head kinds.Commit
  head_held kind head at = led_from_heads folder files sound (local_side kind) id head (commit_named head) is at ([], refl)

  -- so nothing but a limit of trees keeps it from being copied into whole objects
  pub sound_limit : (closed : Bool) (target : Objects) → AreWhole target → HaveOneText (objects_in files folder) target
      → (kind : EntityWord) (head : Name) → head_at files folder (local_side kind) id ≡ Head head
      → (why : CopyFault) → CauseHolds closed (objects_in files folder) target head why → (count : ℕ) × (why ≡ fault.TooLarge count) × IsTreeLimit count
  sound_limit closed target whole alike kind head at why holds =
      limit_alone closed (objects_in files folder) target head (sound parts.Objects) whole alike (head_held kind head at) (head_no_ring kind head at) (head_few kind head at) why holds

  -- and where the trees below it are flat and small, nothing does
  pub sound_none : (closed : Bool) (target : Objects) → AreWhole target → HaveOneText (objects_in files folder) target
      → (kind : EntityWord) (head : Name) → head_at files folder (local_side kind) id ≡ Head head → HasFlatTrees (objects_in files folder) head
      → (why : CopyFault) → CauseHolds closed (objects_in files folder) target head why → ⊥
  sound_none closed target whole alike kind head at flat why holds =
      none_alone closed (objects_in files folder) target head (sound parts.Objects) whole alike (head_held kind head at) (head_no_ring kind head at) (head_few kind head at) flat why holds

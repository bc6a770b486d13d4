-- What a turn that refuses an entity says of its heads.
use Rattle.std.proofs.Common.{◌≡◌, ◌⊎◌, inl, inr, ℕ, List, Option, Some, None, refl, sym, ◌∙◌, subst}
use Rattle.std.proofs.lemmas.Option.{same_Some}
use Rattle.dag_entity.specs.Faults.{EntityFaultHolds, IsValid}
use Rattle.dag_entity.specs.declared.fault.EntityFault.{EntityFault}
use Rattle.dag_entity.specs.declared.fault.EntityFault.TheVariants as fault
use Rattle.entity_merge.specs.Joins.{IsKnown}
use Rattle.repo_state.specs.declared.side.Side.TheVariants as side
use Rattle.merge_steps.specs.Merging.{BugOutcome}
use Rattle.merge_steps.specs.declared.line.MergeOutcome.TheVariants as outcome
use Rattle.merge_steps.proofs.Names.{Id, Name, Files, History, files_of, Objects, objects_after, bug_kind, IsHeadAt, Side, MergeTurn, MergesBug, MergeOutcome, both_heads}

-- a ref has one head, or none
pub one_head : (files : Files) (folder : List ℕ) (of : Side) (id : Id) (one two : Option Name) → IsHeadAt files folder of id one → IsHeadAt files folder of id two → one ≡ two
one_head files folder of id None None first second = refl
one_head files folder of id None (Some name) first second = absurd (cc (sym first ∙ second))
one_head files folder of id (Some name) None first second = absurd (cc (sym first ∙ second))
one_head files folder of id (Some one) (Some two) first second = cc (sym first ∙ second)

-- want of memory is no fault of heads, and neither is a fault of the disk
pub never_memory : (objects : Objects) (id : Id) (heads : List Name) (authors : List Id) (f : EntityFault) → EntityFaultHolds bug_kind objects id heads authors f → f ≡ fault.Memory → ⊥
unfolding EntityFaultHolds
never_memory objects id heads authors fault.Memory holds same = holds
never_memory objects id heads authors _ holds same = cc same

pub never_disk : (objects : Objects) (id : Id) (heads : List Name) (authors : List Id) (f : EntityFault) → EntityFaultHolds bug_kind objects id heads authors f → f ≡ fault.Disk → ⊥
unfolding EntityFaultHolds
never_disk objects id heads authors fault.Disk holds same = holds
never_disk objects id heads authors _ holds same = cc same

module _ (folder : List ℕ) (user : Id) (authors : List Id) (now : ℕ) (turn : MergeTurn) (old new : History) (f : EntityFault) (is : MergesBug folder user authors now turn old new) (refused : turn.outcome ≡ outcome.InvalidBug f) where
  -- the fault is one of both heads together, and nothing was written
  pub says_fault : (IsKnown (objects_after old folder) is.local is.tracked → ⊥) × EntityFaultHolds bug_kind (objects_after old folder) turn.entity.id (both_heads is.local is.tracked) authors f × (new ≡ old)
  says_fault = subst (λ (o : MergeOutcome). BugOutcome folder user authors now turn.entity.id is.local is.tracked o old new) refused is.is

  -- so it is not said where nothing is wrong, nor where the tracked head is known
  pub never_said : (local : Option Name) (tracked : Name) → IsHeadAt (files_of old) folder side.Bugs turn.entity.id local → turn.entity.head ≡ Some tracked
      → IsKnown (objects_after old folder) local tracked ⊎ IsValid bug_kind (objects_after old folder) turn.entity.id (both_heads local tracked) authors → ⊥
  never_said local tracked at listed good =
      let locals : local ≡ is.local = one_head (files_of old) folder side.Bugs turn.entity.id local is.local at is.is_local in
      let names : tracked ≡ is.tracked = same_Some tracked is.tracked (sym listed ∙ is.is_tracked) in
      by (subst (λ (t : Name). IsKnown (objects_after old folder) is.local t ⊎ IsValid bug_kind (objects_after old folder) turn.entity.id (both_heads is.local t) authors) names
      (subst (λ (l : Option Name). IsKnown (objects_after old folder) l tracked ⊎ IsValid bug_kind (objects_after old folder) turn.entity.id (both_heads l tracked) authors) locals good))
    where
      by : IsKnown (objects_after old folder) is.local is.tracked ⊎ IsValid bug_kind (objects_after old folder) turn.entity.id (both_heads is.local is.tracked) authors → ⊥
      by (inl known) = says_fault.0 known
      by (inr valid) = valid f says_fault.1

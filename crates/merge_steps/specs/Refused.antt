-- Why a merge refuses an entity.
use Rattle.std.specs.Prelude.{◌≡◌, ℕ, List, Option, Some}
use Rattle.gb_text.specs.declared.id.Id.{Id}
use Rattle.gb_text.specs.declared.id.Name.{Name}
use Rattle.gb_store.specs.Files.{History, files_of}
use Rattle.gb_store.specs.Moments.{IsMoment}
use Rattle.object_store.specs.Held.{Objects, objects_after}
use Rattle.commit_walk.specs.Chain.{Meets}
use Rattle.ref_store.specs.Refs.{Head}
use Rattle.bug_ops.specs.Kind.{bug_kind}
use Rattle.dag_entity.specs.Faults.{EntityFaultHolds}
use Rattle.identity.specs.Persons.{IdentityFaultHolds, IsChain}
use Rattle.entity_merge.specs.Joins.{both_heads}
use Rattle.remote_name.specs.declared.remote.RemoteName.{RemoteName}
use Rattle.repo_state.specs.Answers.{IsHeadAt}
use Rattle.repo_state.specs.Sides.{AreIds, head_at}
use Rattle.repo_state.specs.declared.side.Side.TheVariants as side
use Rattle.sync_steps.specs.Places.{local_side, tracking_side}
use Rattle.merge_steps.specs.declared.line.MergeLine.{MergeLine}
use Rattle.merge_steps.specs.declared.line.MergeOutcome.{MergeOutcome}
use Rattle.merge_steps.specs.declared.line.MergeOutcome.TheVariants as outcome

-- each of two heads of an identity is in no chain of the other; the tracked one, which is told, has a chain of the identity
pub record AreTwoLines (objects : Objects) (id : Id) (local : Option Name) (tracked told : Name) : Type 0 where
  pub is_told : told ≡ tracked
  pub chain : IsChain objects id tracked
  pub low : Name
  pub is_low : local ≡ Some low
  pub not_below : Meets objects low tracked → ⊥
  pub not_above : Meets objects tracked low → ⊥

-- what is so of the heads of an entity that is refused with this outcome, and whose authors these may be
abbrev pub IsCause : Objects → List Id → Id → Option Name → Name → MergeOutcome → Type 0
IsCause objects authors id local tracked (outcome.InvalidBug f) = EntityFaultHolds bug_kind objects id (both_heads local tracked) authors f
IsCause objects authors id local tracked (outcome.InvalidIdentity f) = IdentityFaultHolds objects id tracked f
IsCause objects authors id local tracked (outcome.NotForward name) = AreTwoLines objects id local tracked name
IsCause objects authors id local tracked _ = ⊥

-- at a moment of a merge this was so of the heads that the refs of a line's entity had at first; the authors are the identities that were local once the identities had their turns
pub record WasRefused (folder : List ℕ) (remote : RemoteName) (line : MergeLine) (old new : History) : Type 0 where
  pub local : Option Name
  pub is_local : IsHeadAt (files_of old) folder (local_side line.word) line.id local
  pub tracked : Name
  pub is_tracked : head_at (files_of old) folder (tracking_side remote line.word) line.id ≡ Head tracked
  pub mid : History
  pub is_mid : IsMoment old new mid
  pub authors : List Id
  pub are_authors : AreIds (files_of mid) folder side.Identities authors
  pub moment : History
  pub is_moment : IsMoment old new moment
  pub cause : IsCause (objects_after moment folder) authors line.id local tracked line.outcome

-- What a line of a merge says of a bug, at the moment of the merge when the bug had its turn.
use Rattle.std.specs.Prelude.{◌≡◌, ℕ, List, Option}
use Rattle.gb_text.specs.declared.id.Id.{Id}
use Rattle.gb_text.specs.declared.id.Name.{Name}
use Rattle.gb_store.specs.Files.{History, files_of}
use Rattle.gb_store.specs.Moments.{IsMoment}
use Rattle.object_store.specs.Held.{objects_after}
use Rattle.ref_store.specs.Refs.{Head}
use Rattle.remote_name.specs.declared.remote.RemoteName.{RemoteName}
use Rattle.bug_ops.specs.Kind.{bug_kind}
use Rattle.dag_entity.specs.Faults.{EntityFaultHolds}
use Rattle.dag_entity.specs.declared.fault.EntityFault.{EntityFault}
use Rattle.entity_merge.specs.Joins.{both_heads}
use Rattle.repo_state.specs.Answers.{IsHeadAt}
use Rattle.repo_state.specs.Sides.{AreIds, head_at}
use Rattle.repo_state.specs.declared.side.Side.TheVariants as side
use Rattle.merge_steps.specs.Left.{IsJoinOf}
use Rattle.merge_steps.specs.declared.line.MergeLine.{MergeLine}

-- the heads of a bug at a moment of a merge: the local one, or none, and the tracked one, each as it was when the merge began
pub record HeadsThen (folder : List ℕ) (remote : RemoteName) (id : Id) (local : Option Name) (tracked : Name) (old mid : History) : Type 0 where
  pub is_local : IsHeadAt (files_of mid) folder side.Bugs id local
  pub is_tracked : head_at (files_of mid) folder (side.RemoteBugs remote) id ≡ Head tracked
  pub was_local : IsHeadAt (files_of old) folder side.Bugs id local
  pub was_tracked : head_at (files_of old) folder (side.RemoteBugs remote) id ≡ Head tracked

-- a bug was joined between two moments of a merge, and its local ref stayed from then on
pub record JoinedLine (folder : List ℕ) (remote : RemoteName) (line : MergeLine) (old new : History) : Type 0 where
  pub mid : History
  pub end : History
  pub is_mid : IsMoment old new mid
  pub is_end : IsMoment old new end
  pub in_order : IsMoment mid new end
  pub local : Option Name
  pub tracked : Name
  pub heads : HeadsThen folder remote line.id local tracked old mid
  pub joins : IsJoinOf folder line.id local tracked mid end
  pub stays : head_at (files_of new) folder side.Bugs line.id ≡ head_at (files_of end) folder side.Bugs line.id

-- at a moment of a merge both heads of a bug together had this fault, by the local identities then, and its local ref is as it was
pub record RefusedLine (folder : List ℕ) (remote : RemoteName) (line : MergeLine) (why : EntityFault) (old new : History) : Type 0 where
  pub mid : History
  pub is_mid : IsMoment old new mid
  pub local : Option Name
  pub tracked : Name
  pub heads : HeadsThen folder remote line.id local tracked old mid
  pub authors : List Id
  pub are_authors : AreIds (files_of mid) folder side.Identities authors
  pub holds : EntityFaultHolds bug_kind (objects_after mid folder) line.id (both_heads local tracked) authors why
  pub same : head_at (files_of new) folder side.Bugs line.id ≡ head_at (files_of old) folder side.Bugs line.id

-- a merge joined a bug: exactly the operation commits that lay below its local head, or below none, and below the tracked one when the merge
-- began lie below its local head when it ends
pub record JoinedBug (folder : List ℕ) (remote : RemoteName) (id : Id) (old new : History) : Type 0 where
  pub local : Option Name
  pub is_local : IsHeadAt (files_of old) folder side.Bugs id local
  pub tracked : Name
  pub is_tracked : head_at (files_of old) folder (side.RemoteBugs remote) id ≡ Head tracked
  pub joins : IsJoinOf folder id local tracked old new

-- A sound bug stays sound, and a true row true, while objects are only added and the identities' refs still stand.
use Rattle.std.proofs.Common.{ℕ, List, [], ◌∷◌, IsTrue, ◌∙◌}
use Rattle.gb_text.specs.Digits.{IsId}
use Rattle.gb_text.specs.declared.id.Id.{Id}
use Rattle.gb_text.specs.declared.id.Name.{Name}
use Rattle.gb_store.specs.Files.{Files}
use Rattle.object_store.specs.Growth.{OnlyGrew}
use Rattle.object_store.specs.Held.{Objects, objects_in}
use Rattle.ref_store.specs.Refs.{Ref, Absent, Head, Bad}
use Rattle.bug_ops.specs.Kind.{bug_kind}
use Rattle.bug_ops.specs.declared.op.BugOp.{BugOp}
use Rattle.dag_entity.specs.Agreeing.{SameNeeded}
use Rattle.dag_entity.specs.Faults.{EntityFaultHolds}
use Rattle.dag_entity.specs.Nodes.{IsNodeBelow}
use Rattle.dag_entity.specs.declared.entity.Loaded.{Loaded}
use Rattle.dag_entity.specs.declared.fault.EntityFault.TheVariants as fault
use Rattle.dag_entity.proofs.AgreeFaults.{fault_over, operations_over}
use Rattle.dag_entity.proofs.AgreeGrowth.{needed_stays}
use Rattle.dag_entity.proofs.AgreeLemmas.{agree_back, below_over, commit_same, pack_under_same}
use Rattle.repo_state.specs.Sides.{has_ref}
use Rattle.repo_state.specs.Sound.{AreAuthorsLocal, HasNoFault, IsAuthoredBug, IsSoundBug, IsTrueRow}
use Rattle.repo_state.specs.declared.side.Side.TheVariants as side
use Rattle.row_text.specs.declared.row.HeadRow.{HeadRow}

-- ---- objects that grew

module _ (old new : Objects) (grew : OnlyGrew old new) (id : Id) (head : Name) (sound : HasNoFault old id head) where
  -- nothing that is needed is missing, so what grew is the same of all that is needed
  needed-same : SameNeeded old new (head ∷ [])
  unfolding EntityFaultHolds
  needed-same = needed_stays old new (head ∷ []) grew (λ name needed none. sound (fault.Missing name) (λ author e. cc e) (needed, none))

  needed-back : SameNeeded new old (head ∷ [])
  needed-back = agree_back old new (head ∷ []) needed-same

  -- nothing is wrong with the entity now
  pub HasNoFault-grew : HasNoFault new id head
  HasNoFault-grew f other holds = sound f other (fault_over new old (head ∷ []) needed-back bug_kind id [] f holds)

  -- a node below the head was there before
  pub node-before : (node : Loaded BugOp) → IsNodeBelow bug_kind new (head ∷ []) node → IsNodeBelow bug_kind old (head ∷ []) node
  node-before node now =
      let name = node.placed.commit in
      let is = now.is in
      record {
        below = below_over new old (head ∷ []) needed-back name now.below;
        is = record {
          commit = is.commit;
          held = commit_same new old (head ∷ []) needed-back name now.below ∙ is.held;
          parents = is.parents;
          pack = pack_under_same new old (head ∷ []) needed-back bug_kind name is.commit (record { below = now.below; held = is.held }) ∙ is.pack;
        };
      }

-- a sound bug stays sound
pub bug-grew : (old new : Objects) → OnlyGrew old new → (id : Id) (ref : Ref) → IsSoundBug old id ref → IsSoundBug new id ref
bug-grew old new grew id Absent sound = tt
bug-grew old new grew id (Head head) sound = HasNoFault-grew old new grew id head sound
bug-grew old new grew id Bad sound = sound

-- a true row stays true
pub IsTrueRow-grew : (old new : Objects) → OnlyGrew old new → (id : Id) (row : HeadRow) → IsTrueRow old id row → IsTrueRow new id row
IsTrueRow-grew old new grew id row was = record {
  no_fault = HasNoFault-grew old new grew id row.head was.no_fault;
  is = record {
    ops = was.is.ops;
    are = operations_over old new (row.head ∷ []) (needed-same old new grew id row.head was.no_fault) bug_kind was.is.ops was.is.are;
    begins = was.is.begins;
    is = was.is.is;
  };
}

-- ---- identities' refs that still stand

module _ (folder : List ℕ) (old new : Files) (grew : OnlyGrew (objects_in old folder) (objects_in new folder))
    (stand : (id : Id) → IsId id → IsTrue (has_ref old folder side.Identities id) → IsTrue (has_ref new folder side.Identities id)) where
  -- authors that were local identities are
  pub AreAuthorsLocal-grew : (id : Id) (head : Name) → HasNoFault (objects_in old folder) id head → AreAuthorsLocal folder old head → AreAuthorsLocal folder new head
  AreAuthorsLocal-grew id head sound local node below =
      let was = local node (node-before (objects_in old folder) (objects_in new folder) grew id head sound node below) in
      record { is_id = was.is_id; stands = stand node.placed.pack.author was.is_id was.stands }

  -- a sound bug of local authors stays one
  pub authored-grew : (id : Id) (ref : Ref) → IsAuthoredBug folder old id ref → IsAuthoredBug folder new id ref
  authored-grew id Absent sound = tt
  authored-grew id (Head head) sound =
      (HasNoFault-grew (objects_in old folder) (objects_in new folder) grew id head sound.0, AreAuthorsLocal-grew id head sound.0 sound.1)
  authored-grew id Bad sound = sound

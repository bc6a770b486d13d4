-- Bugs last seen at a remote that are without fault, and whose authors a merge knows.
use Rattle.std.specs.Prelude.{◌≡◌, ◌⊎◌, ℕ, List, [], ◌∷◌}
use Rattle.gb_text.specs.Digits.{IsId}
use Rattle.gb_text.specs.declared.id.Id.{Id}
use Rattle.gb_text.specs.declared.id.Name.{Name}
use Rattle.gb_store.specs.Files.{Files}
use Rattle.object_store.specs.Held.{objects_in}
use Rattle.ref_store.specs.Refs.{Head}
use Rattle.bug_ops.specs.Kind.{bug_kind}
use Rattle.bug_ops.specs.declared.op.BugOp.{BugOp}
use Rattle.dag_entity.specs.Nodes.{IsNodeBelow}
use Rattle.dag_entity.specs.declared.entity.Loaded.{Loaded}
use Rattle.identity.specs.Persons.{IsChain}
use Rattle.remote_name.specs.declared.remote.RemoteName.{RemoteName}
use Rattle.repo_state.specs.Bugs.{IsLocal}
use Rattle.repo_state.specs.Sides.{head_at}
use Rattle.repo_state.specs.Sound.{HasNoFault}
use Rattle.repo_state.specs.declared.side.Side.TheVariants as side

-- nothing is wrong with each bug that was last seen at the remote, but perhaps that an author is unknown
abbrev pub TrackedAreSound : Files → List ℕ → RemoteName → Type 0
TrackedAreSound files folder remote =
    (id : Id) (head : Name) → IsId id → head_at files folder (side.RemoteBugs remote) id ≡ Head head → HasNoFault (objects_in files folder) id head

-- an identity that was last seen at the remote, and whose chain has no fault
pub record IsTrackedPerson (files : Files) (folder : List ℕ) (remote : RemoteName) (id : Id) : Type 0 where
  pub is_id : IsId id
  pub head : Name
  pub is_head : head_at files folder (side.RemoteIdentities remote) id ≡ Head head
  pub chain : IsChain (objects_in files folder) id head

-- the author of each pack below a bug that was last seen at the remote is a local identity, or such a tracked one
abbrev pub TrackedAuthorsAreKnown : Files → List ℕ → RemoteName → Type 0
TrackedAuthorsAreKnown files folder remote =
    (id : Id) (head : Name) (node : Loaded BugOp) → IsId id → head_at files folder (side.RemoteBugs remote) id ≡ Head head
    → IsNodeBelow bug_kind (objects_in files folder) (head ∷ []) node
    → IsLocal files folder node.placed.pack.author ⊎ IsTrackedPerson files folder remote node.placed.pack.author

-- What a merge brought of an entity, and keeps.
use Rattle.std.specs.Prelude.{◌≡◌, ℕ, List, [], ◌∷◌}
use Rattle.gb_text.specs.declared.id.Id.{Id}
use Rattle.gb_text.specs.declared.id.Name.{Name}
use Rattle.gb_store.specs.Files.{Files}
use Rattle.commit_walk.specs.Below.{IsBelow}
use Rattle.object_store.specs.Held.{objects_in}
use Rattle.ref_store.specs.Refs.{Head}
use Rattle.remote_name.specs.declared.remote.RemoteName.{RemoteName}
use Rattle.bug_ops.specs.Kind.{bug_kind}
use Rattle.bug_ops.specs.declared.op.BugOp.{BugOp}
use Rattle.dag_entity.specs.Entities.{IsOperationCommit}
use Rattle.dag_entity.specs.declared.entity.Placed.{Placed}
use Rattle.repo_state.specs.Sides.{head_at}
use Rattle.repo_state.specs.declared.side.Side.TheVariants as side
use Rattle.repo_writes.specs.Kept.{KeepsBelow}
use Rattle.sync_steps.specs.declared.line.EntityWord.{EntityWord}
use Rattle.sync_steps.specs.declared.line.EntityWord.TheVariants as word
use Rattle.run_moments.specs.Survives.{HasCommit}

-- the commits below a head are below it still
abbrev pub KeepsAllBelow : List ℕ → Files → Files → Name → Type 0
KeepsAllBelow folder old new head = (name : Name) → IsBelow (objects_in old folder) (head ∷ []) name → IsBelow (objects_in new folder) (head ∷ []) name

-- what the tracking ref of an entity led to when the merge began, its local ref leads to now: the version of an identity, or each operation
-- commit of a bug
abbrev pub HasTracked : EntityWord → List ℕ → RemoteName → Id → Files → Files → Type 0
HasTracked word.Identity folder remote id old new =
    (tracked : Name) → head_at old folder (side.RemoteIdentities remote) id ≡ Head tracked → KeepsBelow folder new side.Identities id tracked
HasTracked word.Bug folder remote id old new =
    (tracked : Name) (placed : Placed BugOp) → head_at old folder (side.RemoteBugs remote) id ≡ Head tracked
    → IsOperationCommit bug_kind (objects_in old folder) (tracked ∷ []) placed → HasCommit folder new id placed

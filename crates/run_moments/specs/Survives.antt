-- What survives of what was answered.
use Rattle.std.specs.Prelude.{◌≡◌, ⊤, ℕ, List, [], ◌∷◌, Contains}
use Rattle.gb_text.specs.Digits.{IsId}
use Rattle.gb_text.specs.declared.id.Id.{Id}
use Rattle.gb_text.specs.declared.id.Name.{Name}
use Rattle.gb_store.specs.Files.{Files}
use Rattle.object_store.specs.Held.{objects_in}
use Rattle.ref_store.specs.Refs.{Head}
use Rattle.bug_ops.specs.Kind.{bug_kind}
use Rattle.bug_ops.specs.declared.op.BugOp.{BugOp}
use Rattle.dag_entity.specs.Entities.{IsOperationCommit}
use Rattle.dag_entity.specs.declared.entity.Placed.{Placed}
use Rattle.repo_state.specs.Sides.{head_at}
use Rattle.repo_state.specs.declared.side.Side.TheVariants as side
use Rattle.repo_state.specs.Bugs.{FindsBug}
use Rattle.repo_state.specs.Comments.{FindsComment}
use Rattle.repo_steps.specs.BugDoings.{op_ids}
use Rattle.words.specs.declared.edit.Edit.{Edit}
use Rattle.words.specs.declared.edit.Edit.TheVariants as edit

-- an edit adds an operation: it begins a bug, or edits one, or edits a comment
abbrev pub Adds : Edit → Type 0
Adds (edit.UserNew name email) = ⊥
Adds (edit.UserEdit name email) = ⊥
Adds (edit.UserSet word) = ⊥
Adds (edit.New title message) = ⊤
Adds (edit.OfBug word e) = ⊤
Adds (edit.OfComment word message) = ⊤

-- the bug to which an edit adds its operation, which has this id: the new one, or the one that the argument finds
abbrev pub IsAddedTo : List ℕ → Files → Edit → Id → Id → Type 0
IsAddedTo folder files (edit.UserNew name email) id bug = ⊥
IsAddedTo folder files (edit.UserEdit name email) id bug = ⊥
IsAddedTo folder files (edit.UserSet word) id bug = ⊥
IsAddedTo folder files (edit.New title message) id bug = bug ≡ id
IsAddedTo folder files (edit.OfBug word e) id bug = (head : Name) × FindsBug files folder word (record { id = bug; name = head })
IsAddedTo folder files (edit.OfComment word message) id bug =
    (head : Name) × (comment : Id) × FindsComment files folder word (record { bug = record { id = bug; name = head }; comment = comment })

-- a bug of the folder has a head, below which lies this operation commit
pub record HasCommit (folder : List ℕ) (files : Files) (bug : Id) (placed : Placed BugOp) : Type 0 where
  pub head : Name
  pub is_head : head_at files folder side.Bugs bug ≡ Head head
  pub is : IsOperationCommit bug_kind (objects_in files folder) (head ∷ []) placed

-- a bug of the folder has an operation with this id
pub record HasOperation (folder : List ℕ) (files : Files) (bug id : Id) : Type 0 where
  pub placed : Placed BugOp
  pub commit : HasCommit folder files bug placed
  pub has : Contains (op_ids placed.pack.ops) id

-- each operation commit of each bug stays one of that bug
abbrev pub KeepsCommits : List ℕ → Files → Files → Type 0
KeepsCommits folder old new = (bug : Id) → IsId bug → (placed : Placed BugOp) → HasCommit folder old bug placed → HasCommit folder new bug placed

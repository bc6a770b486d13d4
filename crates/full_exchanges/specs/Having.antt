-- What folders have of bugs: that a bug is there, and its operation commits.
use Rattle.std.specs.Prelude.{◌≡◌, ◌↔◌, ⊤, ℕ, List, [], ◌∷◌, Contains, Some}
use Rattle.gb_text.specs.Digits.{IsId}
use Rattle.gb_text.specs.declared.id.Id.{Id}
use Rattle.gb_text.specs.declared.id.Name.{Name}
use Rattle.gb_store.specs.Files.{Files}
use Rattle.object_store.specs.Held.{Objects, objects_in, text_at}
use Rattle.ref_store.specs.Refs.{Head}
use Rattle.bug_ops.specs.Kind.{bug_kind}
use Rattle.bug_ops.specs.declared.op.BugOp.{BugOp}
use Rattle.dag_entity.specs.Entities.{IsOperationCommit}
use Rattle.dag_entity.specs.declared.entity.Placed.{Placed}
use Rattle.repo_state.specs.Sides.{head_at}
use Rattle.repo_state.specs.declared.side.HeadEntry.{HeadEntry}
use Rattle.repo_state.specs.declared.side.Side.{Side}
use Rattle.repo_state.specs.declared.side.Side.TheVariants as side
use Rattle.repo_view.specs.Shown.{AgreeOnAuthors}

-- what a folder may have of a bug: the bug itself, or one of its operation commits, with its pack
pub data Piece : Type 0 where
  TheBug : Piece
  ACommit : Placed BugOp → Piece

-- a head has a piece: an operation commit lies below it
abbrev pub IsBelowHead : Objects → Name → Piece → Type 0
IsBelowHead objects head TheBug = ⊤
IsBelowHead objects head (ACommit placed) = IsOperationCommit bug_kind objects (head ∷ []) placed

-- a folder has a piece of the bug with this id, on a side: by the head that the ref there has
pub record Has (files : Files) (folder : List ℕ) (of : Side) (id : Id) (piece : Piece) : Type 0 where
  pub head : Name
  pub is_head : head_at files folder of id ≡ Head head
  pub is : IsBelowHead (objects_in files folder) head piece

-- one of these folders has it among its own bugs
pub record OneHas (files : Files) (folders : List (List ℕ)) (id : Id) (piece : Piece) : Type 0 where
  pub folder : List ℕ
  pub is : Contains folders folder
  pub has : Has files folder side.Bugs id piece

-- a folder has of each bug exactly what these folders had together
abbrev pub HasAllOf : Files → List ℕ → Files → List (List ℕ) → Type 0
HasAllOf new folder old folders =
    (id : Id) (piece : Piece) → IsId id → Has new folder side.Bugs id piece ↔ OneHas old folders id piece

-- two folders, of the same files or not, have the same bugs, and the same operation commits of each
abbrev pub HaveTheSame : Files → List ℕ → Files → List ℕ → Type 0
HaveTheSame files folder others place =
    (id : Id) (piece : Piece) → IsId id → Has files folder side.Bugs id piece ↔ Has others place side.Bugs id piece

-- in these folders each name is that of one text: two of them hold no two texts under one name
abbrev pub HaveOneTextEach : Files → List (List ℕ) → Type 0
HaveOneTextEach files folders =
    (one two : List ℕ) (name : Name) (text other : List ℕ) → Contains folders one → Contains folders two
    → text_at (objects_in files one) name ≡ Some text → text_at (objects_in files two) name ≡ Some other → text ≡ other

-- two folders have the same name for the author of each operation of each bug of the first
abbrev pub NameAuthorsAlike : Files → List ℕ → Files → List ℕ → Type 0
NameAuthorsAlike files folder others place =
    (bug : HeadEntry) → IsId bug.id → head_at files folder side.Bugs bug.id ≡ Head bug.name → AgreeOnAuthors files folder bug others place

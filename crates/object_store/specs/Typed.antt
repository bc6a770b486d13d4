-- The commits, trees and blobs that names hold in a folder, and what keeps a name from holding one.
use Rattle.std.specs.Prelude.{◌≡◌, ⊤, ℕ, List, Option, Some, None, Result, Ok, Err, option_and_then}
use Rattle.gb_text.specs.declared.id.Name.{Name}
use Rattle.git_object.specs.declared.commit.Commit.{Commit}
use Rattle.git_object.specs.declared.tree.Tree.{Tree}
use Rattle.git_object.specs.declared.object.Object.{Object}
use Rattle.git_object.specs.declared.object.Object.TheVariants as objects
use Rattle.object_store.specs.Held.{Objects, object_at, IsDamaged, IsLarge}
use Rattle.object_store.specs.Named.{IsObjectOf}
use Rattle.object_store.specs.declared.fault.KindFault.{KindFault}
use Rattle.object_store.specs.declared.fault.KindFault.TheVariants as fault

-- an object as a commit, if it is one
abbrev pub as_commit : Object → Option Commit
as_commit (objects.Commit commit) = Some commit
as_commit _ = None

-- an object as a tree, if it is one
abbrev pub as_tree : Object → Option Tree
as_tree (objects.Tree tree) = Some tree
as_tree _ = None

-- an object's content, if it is a blob
abbrev pub as_blob : Object → Option (List ℕ)
as_blob (objects.Blob content) = Some content
as_blob _ = None

-- the commit that a name holds, if it holds one
abbrev pub commit_at : Objects → Name → Option Commit
commit_at objects name = option_and_then as_commit (object_at objects name)

-- the tree that a name holds, if it holds one
abbrev pub tree_at : Objects → Name → Option Tree
tree_at objects name = option_and_then as_tree (object_at objects name)

-- the content of the blob that a name holds, if it holds one
abbrev pub blob_at : Objects → Name → Option (List ℕ)
blob_at objects name = option_and_then as_blob (object_at objects name)

-- a name holds an object, which does not read as one of the kind
pub record IsOtherKind {T : Type 0} (read : Object → Option T) (objects : Objects) (name : Name) : Type 0 where
  pub object : Object
  pub held : object_at objects name ≡ Some object
  pub is_none : read object ≡ None

-- what keeps a name from holding an object that reads as one of a kind, one case a fault
abbrev pub CannotReadAs : {T : Type 0} → (Object → Option T) → Objects → Name → KindFault → Type 0
CannotReadAs read objects name fault.Memory = ⊥
CannotReadAs read objects name fault.Disk = ⊥
CannotReadAs read objects name (fault.Missing n) = (n ≡ name) × (objects name ≡ None)
CannotReadAs read objects name (fault.Damaged n) = (n ≡ name) × IsDamaged objects name
CannotReadAs read objects name (fault.Large n) = (n ≡ name) × IsLarge (objects name)
CannotReadAs read objects name (fault.OtherKind n) = (n ≡ name) × IsOtherKind read objects name

-- something keeps a name from holding one
abbrev pub HasKindFault : {T : Type 0} → (Object → Option T) → Objects → Name → Type 0
HasKindFault read objects name = (f : KindFault) × CannotReadAs read objects name f

-- a name holds an object that reads as one of a kind
abbrev pub HoldsAs : {T : Type 0} → (Object → Option T) → Objects → Name → Type 0
HoldsAs {T = T} read objects name = (value : T) × (option_and_then read (object_at objects name) ≡ Some value)

-- ---- the answers to reads of one kind

-- the object of the kind that the name holds, or why it holds none
abbrev pub AnswersAs : {T : Type 0} → (Object → Option T) → Objects → Name → Result T KindFault → Type 0
AnswersAs read objects name (Ok value) = option_and_then read (object_at objects name) ≡ Some value
AnswersAs read objects name (Err fault.Memory) = ⊤
AnswersAs read objects name (Err fault.Disk) = ⊤
AnswersAs read objects name (Err e) = CannotReadAs read objects name e

-- an answer that is a view, as one of the value that the view shows
abbrev pub shown : {V T E : Type 0} → (V → T) → Result V E → Result T E
shown see (Ok view) = Ok (see view)
shown see (Err e) = Err e

-- the answer is for this name: the object that was read has it, or the fault carries it
abbrev pub IsForAs : {T : Type 0} → (T → Object) → Name → Result T KindFault → Type 0
IsForAs object name (Ok value) = IsObjectOf name (object value)
IsForAs object name (Err fault.Memory) = ⊤
IsForAs object name (Err fault.Disk) = ⊤
IsForAs object name (Err (fault.Missing n)) = n ≡ name
IsForAs object name (Err (fault.Damaged n)) = n ≡ name
IsForAs object name (Err (fault.Large n)) = n ≡ name
IsForAs object name (Err (fault.OtherKind n)) = n ≡ name

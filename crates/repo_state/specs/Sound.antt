-- Sound folders: the parts of soundness, by name, and what keeps them.
use Rattle.std.specs.Prelude.{◌≡◌, ◌≢◌, ⊤, ℕ, true, List, [], ◌∷◌, Some}
use Rattle.gb_text.specs.Digits.{IsId, IsName}
use Rattle.gb_text.specs.declared.id.Id.{Id}
use Rattle.gb_text.specs.declared.id.Name.{Name}
use Rattle.gb_store.specs.Files.{Files, History, files_of}
use Rattle.gb_store.specs.Moments.{AllMoments}
use Rattle.git_object.specs.declared.commit.Commit.{Commit}
use Rattle.git_object.specs.declared.object.Object.{Object}
use Rattle.object_store.specs.Held.{Objects as Held, object_at, objects_in}
use Rattle.object_batch.specs.Needs.{IsWhole}
use Rattle.object_store.specs.Typed.{commit_at}
use Rattle.ref_store.specs.Refs.{Ref, Absent, Head, Bad, packed_reads}
use Rattle.bug_ops.specs.Kind.{bug_kind}
use Rattle.op_kind.specs.Meaning.{Meaning}
use Rattle.dag_entity.specs.Faults.{EntityFaultHolds}
use Rattle.dag_entity.specs.Nodes.{IsNodeBelow}
use Rattle.dag_entity.specs.declared.entity.Loaded.{Loaded}
use Rattle.dag_entity.specs.declared.fault.EntityFault.{EntityFault}
use Rattle.dag_entity.specs.declared.fault.EntityFault.TheVariants.{AuthorUnknown}
use Rattle.identity.specs.Persons.{IsChain}
use Rattle.repo_state.specs.Bugs.{IsLocal}
use Rattle.repo_state.specs.Places.{bug_places}
use Rattle.repo_state.specs.Rows.{IsExcerpt, stored_row}
use Rattle.repo_state.specs.Sides.{head_at}
use Rattle.repo_state.specs.Users.{BadUser, user_at}
use Rattle.remote_name.specs.declared.remote.RemoteName.{RemoteName}
use Rattle.row_text.specs.declared.row.HeadRow.{HeadRow}
use Rattle.repo_state.specs.declared.side.Side.TheVariants as side

-- each file at the path of a name is an object that the name holds, and all that an object names is held, as of
-- the kinds by which it is named; so all that a held commit leads to is held
pub record AreWhole (objects : Held) : Type 0 where
  pub held : (name : Name) (text : List ℕ) → IsName name → objects name ≡ Some text → (object : Object) × (object_at objects name ≡ Some object)
  pub whole : IsWhole objects

-- an identity's ref: one that stands reads, and the chain from its head has no fault
abbrev pub IsSoundIdentity : Held → Id → Ref → Type 0
IsSoundIdentity objects id Absent = ⊤
IsSoundIdentity objects id (Head head) = IsChain objects id head
IsSoundIdentity objects id Bad = ⊥

-- a tracking ref: one that stands reads, and names a commit that is held
abbrev pub IsSoundTracking : Held → Ref → Type 0
IsSoundTracking objects Absent = ⊤
IsSoundTracking objects (Head head) = (commit : Commit) × (commit_at objects head ≡ Some commit)
IsSoundTracking objects Bad = ⊥

-- ---- entities of a kind, by what its operations mean

-- nothing is wrong with the entity at this head, but perhaps that an author is unknown
abbrev pub HasNoFaultOf : {Op State Row : Type 0} → Meaning Op State Row → Held → Id → Name → Type 0
HasNoFaultOf k objects id head = (f : EntityFault) → ((author : Id) → f ≢ AuthorUnknown author) → EntityFaultHolds k objects id (head ∷ []) [] f → ⊥

-- the author of each pack below a head is a local identity
abbrev pub AreAuthorsLocalOf : {Op State Row : Type 0} → Meaning Op State Row → List ℕ → Files → Name → Type 0
AreAuthorsLocalOf {Op = Op} k folder files head =
    (node : Loaded Op) → IsNodeBelow k (objects_in files folder) (head ∷ []) node → IsLocal files folder node.placed.pack.author

-- a ref: one that exists reads, and nothing is wrong with the entity at its head, but perhaps that an author is unknown
abbrev pub IsSoundEntity : {Op State Row : Type 0} → Meaning Op State Row → Held → Id → Ref → Type 0
IsSoundEntity k objects id Absent = ⊤
IsSoundEntity k objects id (Head head) = HasNoFaultOf k objects id head
IsSoundEntity k objects id Bad = ⊥

-- and its authors are local identities
abbrev pub IsAuthoredEntity : {Op State Row : Type 0} → Meaning Op State Row → List ℕ → Files → Id → Ref → Type 0
IsAuthoredEntity k folder files id Absent = ⊤
IsAuthoredEntity k folder files id (Head head) = HasNoFaultOf k (objects_in files folder) id head × AreAuthorsLocalOf k folder files head
IsAuthoredEntity k folder files id Bad = ⊥

-- ---- bugs

abbrev pub HasNoFault : Held → Id → Name → Type 0
HasNoFault objects id head = HasNoFaultOf bug_kind objects id head

abbrev pub AreAuthorsLocal : List ℕ → Files → Name → Type 0
AreAuthorsLocal folder files head = AreAuthorsLocalOf bug_kind folder files head

abbrev pub IsSoundBug : Held → Id → Ref → Type 0
IsSoundBug objects id ref = IsSoundEntity bug_kind objects id ref

abbrev pub IsAuthoredBug : List ℕ → Files → Id → Ref → Type 0
IsAuthoredBug folder files id ref = IsAuthoredEntity bug_kind folder files id ref

-- a row of a bug is true, though perhaps old: nothing is wrong with the entity at the head that it names, but perhaps that an author is
-- unknown, and it is what lists show of the bug there
pub record IsTrueRow (objects : Held) (id : Id) (row : HeadRow) : Type 0 where
  pub no_fault : HasNoFault objects id row.head
  pub is : IsExcerpt objects row.head row.row

-- ---- the parts of a sound folder

-- its objects are whole
abbrev pub HasWholeObjects : List ℕ → Files → Type 0
HasWholeObjects folder files = AreWhole (objects_in files folder)

-- each local identity's ref reads, and its chain has no fault
abbrev pub HasSoundIdentities : List ℕ → Files → Type 0
HasSoundIdentities folder files = (id : Id) → IsId id → IsSoundIdentity (objects_in files folder) id (head_at files folder side.Identities id)

-- each local bug's ref reads, and nothing is wrong with the entity at its head, but perhaps that an author is unknown
abbrev pub HasSoundBugs : List ℕ → Files → Type 0
HasSoundBugs folder files = (id : Id) → IsId id → IsSoundBug (objects_in files folder) id (head_at files folder bug_places.heads id)

-- and the authors of each are local identities
abbrev pub HasKnownAuthors : List ℕ → Files → Type 0
HasKnownAuthors folder files = (id : Id) → IsId id → IsAuthoredBug folder files id (head_at files folder bug_places.heads id)

-- each tracking ref reads, and names a held commit
abbrev pub HasSoundTracking : List ℕ → Files → Type 0
HasSoundTracking folder files = (remote : RemoteName) → (id : Id) → IsId id
    → IsSoundTracking (objects_in files folder) (head_at files folder (side.RemoteBugs remote) id)
    × IsSoundTracking (objects_in files folder) (head_at files folder (side.RemoteIdentities remote) id)

-- the user file, where one stands, names a local identity
abbrev pub HasSoundUser : List ℕ → Files → Type 0
HasSoundUser folder files = user_at files folder ≡ BadUser → ⊥

-- each row that is stored of a bug, and reads, is true
abbrev pub HasTrueRows : List ℕ → Files → Type 0
HasTrueRows folder files = (id : Id) → IsId id → (row : HeadRow) → stored_row files folder id ≡ Some row → IsTrueRow (objects_in files folder) id row

-- its packed refs read: their file does not exist, or is a packed text that is not too long
abbrev pub HasPackedRefs : List ℕ → Files → Type 0
HasPackedRefs folder files = packed_reads files folder ≡ true

-- The parts by name. Each stands by itself: what would have a premise on another part is one part with it.
pub data Part : Type 0 where
  Objects : Part
  Identities : Part
  Bugs : Part
  Authors : Part
  Tracking : Part
  User : Part
  Rows : Part
  Packed : Part

-- a folder has a part of soundness
abbrev pub HasPart : Part → List ℕ → Files → Type 0
HasPart Objects folder files = HasWholeObjects folder files
HasPart Identities folder files = HasSoundIdentities folder files
HasPart Bugs folder files = HasSoundBugs folder files
HasPart Authors folder files = HasKnownAuthors folder files
HasPart Tracking folder files = HasSoundTracking folder files
HasPart User folder files = HasSoundUser folder files
HasPart Rows folder files = HasSoundBugs folder files × HasTrueRows folder files
HasPart Packed folder files = HasPackedRefs folder files

-- A sound folder has each part.
abbrev pub IsSound : List ℕ → Files → Type 0
IsSound folder files = (part : Part) → HasPart part folder files

-- What is written keeps each part of a sound folder, at each moment and whatever the other parts are.
abbrev pub KeepsParts : List ℕ → History → History → Type 0
KeepsParts folder old new = (part : Part) → HasPart part folder (files_of old) → AllMoments (HasPart part folder) old new

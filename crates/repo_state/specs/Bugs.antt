-- The bugs of a folder: the entity at a bug's head, what is wrong with one, and what a read of it answers.
use Rattle.std.specs.Prelude.{◌≡◌, ◌⊎◌, ⊤, ℕ, List, [], ◌∷◌, Contains, IsTrue, Result, Ok, Err}
use Rattle.gb_text.specs.Digits.{IsId}
use Rattle.gb_text.specs.Folder.{joined}
use Rattle.gb_text.specs.declared.id.Id.{Id}
use Rattle.gb_text.specs.declared.id.Name.{Name}
use Rattle.gb_store.specs.Files.{Files}
use Rattle.object_store.specs.Held.{objects_in}
use Rattle.ref_store.specs.Refs.{Absent, Head, Bad}
use Rattle.bug_ops.specs.Kind.{bug_kind}
use Rattle.bug_ops.specs.declared.op.BugOp.{BugOp}
use Rattle.dag_entity.specs.Entities.{IsEntity, ReadsEach}
use Rattle.dag_entity.specs.Faults.{EntityFaultHolds}
use Rattle.dag_entity.specs.declared.entity.Entity.{Entity}
use Rattle.dag_entity.specs.declared.fault.EntityFault.{EntityFault}
use Rattle.dag_entity.specs.declared.fault.EntityFault.TheVariants as fault
use Rattle.dag_entity.specs.Since.{HasNoChainTo, IsChainTo, ReadsChain}
use Rattle.dag_entity.specs.declared.entity.Placed.{Placed}
use Rattle.dag_entity.specs.declared.since.Since.{Since}
use Rattle.dag_entity.specs.declared.since.Since.TheVariants as since
use Rattle.repo_state.specs.Answers.{DamagedRef}
use Rattle.repo_state.specs.Finds.{FindsEntity}
use Rattle.repo_state.specs.Sides.{AreIds, has_ref, head_at, ref_place}
use Rattle.repo_state.specs.declared.side.HeadEntry.{HeadEntry}
use Rattle.repo_state.specs.declared.side.Side.TheVariants as side
use Rattle.repo_state.specs.declared.stop.FindStop.{FindStop}
use Rattle.repo_state.specs.declared.stop.FindStop.TheVariants as find
use Rattle.repo_state.specs.declared.stop.Missed.TheVariants as missed
use Rattle.repo_state.specs.declared.stop.ReadStop.{ReadStop}
use Rattle.repo_state.specs.declared.stop.ReadStop.TheVariants as stop

-- ---- local identities, who are the authors of a folder's bugs

-- a local identity: a ref of its id stands
pub record IsLocal (files : Files) (folder : List ℕ) (id : Id) : Type 0 where
  pub is_id : IsId id
  pub stands : IsTrue (has_ref files folder side.Identities id)

-- the ids of the local identities
abbrev pub AreLocal : Files → List ℕ → List Id → Type 0
AreLocal files folder authors = AreIds files folder side.Identities authors

-- ---- the entity of a bug

-- each id is that of a local identity
abbrev pub EachIsLocal : Files → List ℕ → List Id → Type 0
EachIsLocal files folder ids = (id : Id) → Contains ids id → IsLocal files folder id

-- the entity of a bug at its head, whose authors are local identities, and with which nothing is wrong
pub record IsBug (files : Files) (folder : List ℕ) (bug : HeadEntry) (entity : Entity BugOp) : Type 0 where
  pub authors : List Id
  pub locals : EachIsLocal files folder authors
  pub is : IsEntity bug_kind (objects_in files folder) bug.id (bug.name ∷ []) authors entity

-- something is wrong with the entity at a bug's head, where its authors are to be local identities
pub record HasBugFault (files : Files) (folder : List ℕ) (bug : HeadEntry) : Type 0 where
  pub authors : List Id
  pub locals : AreLocal files folder authors
  pub fault : EntityFault
  pub holds : EntityFaultHolds bug_kind (objects_in files folder) bug.id (bug.name ∷ []) authors fault

-- the bug that a word finds, whose ref reads
abbrev pub FindsBug : Files → List ℕ → List ℕ → HeadEntry → Type 0
FindsBug files folder word bug = FindsEntity files folder side.Bugs word bug

-- why a bug is damaged: its ref is no ref text, or something is wrong with the entity at its head
abbrev pub IsDamagedBug : Files → List ℕ → Id → Type 0
IsDamagedBug files folder id =
    (head_at files folder side.Bugs id ≡ Bad)
    ⊎ ((head : Name) × (head_at files folder side.Bugs id ≡ Head head) × HasBugFault files folder (record { id = id; name = head }))

-- ---- the answers

-- why there is no entity of this bug
abbrev pub BugRefused : Files → List ℕ → HeadEntry → ReadStop → Type 0
BugRefused files folder bug stop.Memory = ⊤
BugRefused files folder bug stop.Disk = ⊤
BugRefused files folder bug (stop.Damaged path) = (path ≡ joined folder (ref_place side.Bugs bug.id)) × HasBugFault files folder bug

-- the entity of this bug, or why there is none
abbrev pub BugAnswers : Files → List ℕ → HeadEntry → Result (Entity BugOp) ReadStop → Type 0
BugAnswers files folder bug (Ok entity) = IsBug files folder bug entity
BugAnswers files folder bug (Err s) = BugRefused files folder bug s

-- what a bug has since a known commit: nothing, where that is its head; the packs above it, where steps by the single parent lead there;
-- and otherwise its entity. Or why there is none
abbrev pub BugSince : Files → List ℕ → HeadEntry → Name → Result (Since BugOp) ReadStop → Type 0
BugSince files folder bug known (Ok since.Same) = bug.name ≡ known
BugSince files folder bug known (Ok (since.Chain packs)) = IsChainTo bug_kind (objects_in files folder) bug.name known packs
BugSince files folder bug known (Ok (since.Whole entity)) = HasNoChainTo bug_kind (objects_in files folder) bug.name known × IsBug files folder bug entity
BugSince files folder bug known (Err s) = BugRefused files folder bug s

-- a fact of the packs of an entity that was read
abbrev pub IfWhole : Result (Since BugOp) ReadStop → (List (Placed BugOp) → Type 0) → Type 0
IfWhole (Ok since.Same) P = ⊤
IfWhole (Ok (since.Chain packs)) P = ⊤
IfWhole (Ok (since.Whole entity)) P = P entity.packs
IfWhole (Err s) P = ⊤

-- the entity of the bug with this id at its head, or why there is none
abbrev pub ReadsBug : Files → List ℕ → Id → Result (Entity BugOp) FindStop → Type 0
ReadsBug files folder id (Ok entity) = (head : Name) × (head_at files folder side.Bugs id ≡ Head head) × IsBug files folder (record { id = id; name = head }) entity
ReadsBug files folder id (Err find.Memory) = ⊤
ReadsBug files folder id (Err find.Disk) = ⊤
ReadsBug files folder id (Err (find.Missed missed.NotFound)) = head_at files folder side.Bugs id ≡ Absent
ReadsBug files folder id (Err (find.Missed (missed.Ambiguous first second))) = ⊥
ReadsBug files folder id (Err (find.Missed (missed.Damaged path))) = (path ≡ joined folder (ref_place side.Bugs id)) × IsDamagedBug files folder id

-- what a fault of this bug's entity is to a read of it: damage of its ref, but for want of memory and faults of the disk
abbrev pub StopOf : List ℕ → Id → EntityFault → ReadStop → Type 0
StopOf folder id fault.Memory s = s ≡ stop.Memory
StopOf folder id fault.Disk s = s ≡ stop.Disk
StopOf folder id _ s = DamagedRef folder side.Bugs id s

-- ---- the reads

-- at most three objects were read for each of some commits below the head of this bug
abbrev pub ReadsBelow : Files → List ℕ → HeadEntry → ℕ → ℕ → Type 0
ReadsBelow files folder bug before after = ReadsEach (objects_in files folder) (bug.name ∷ []) 3 before after

-- and where steps by the single parent lead from its head to a known commit, at most three for each commit above that
abbrev pub ReadsAbove : Files → List ℕ → HeadEntry → Name → ℕ → ℕ → Type 0
ReadsAbove files folder bug known before after = ReadsChain bug_kind (objects_in files folder) bug.name known before after

-- no object was read, or so many below the head of the bug with this id
abbrev pub ReadsAtHead : Files → List ℕ → Id → ℕ → ℕ → Type 0
ReadsAtHead files folder id before after =
    (after ≡ before)
    ⊎ ((head : Name) × (head_at files folder side.Bugs id ≡ Head head) × ReadsBelow files folder (record { id = id; name = head }) before after)

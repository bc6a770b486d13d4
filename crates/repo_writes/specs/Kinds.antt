-- The kinds of write, each described by the files at that time, without a command.
use Rattle.std.specs.Prelude.{◌≡◌, ◌≢◌, ◌<◌, ⊤, ℕ, ◌==◌, Bool, not, List, [], ◌∷◌, Option, Some, None, IsTrue}
use Rattle.std.specs.List.{list_all}
use Rattle.gb_text.specs.Digits.{IsId, IsName}
use Rattle.gb_text.specs.declared.id.Id.{Id}
use Rattle.gb_text.specs.declared.id.Name.{Name}
use Rattle.gb_store.specs.Files.{Files}
use Rattle.gb_store.specs.ObjectPath.{object_place}
use Rattle.gb_store.specs.declared.store.Change.{Change}
use Rattle.object_store.specs.Held.{Objects, objects_in}
use Rattle.object_batch.specs.Needs.{PutsAfterNeeds}
use Rattle.commit_walk.specs.Chain.{Meets}
use Rattle.excerpt_cache.specs.Rows.{row_place, row_write}
use Rattle.ref_store.specs.Refs.{Ref, Absent, Head}
use Rattle.ref_store.specs.Setting.{ref_write}
use Rattle.identity.specs.Persons.{IsChain}
use Rattle.lamport.specs.Clock.{seen_by}
use Rattle.commit_walk.specs.Below.{IsBelow as Below}
use Rattle.op_kind.specs.Meaning.{Meaning}
use Rattle.bug_ops.specs.Kind.{bug_kind}
use Rattle.dag_entity.specs.Entities.{IsRootClock}
use Rattle.dag_entity.specs.Nodes.{edit_at}
use Rattle.repo_state.specs.Clocks.{clock_at, clock_place, clock_write}
use Rattle.repo_state.specs.Places.{EntityPlaces, bug_places}
use Rattle.repo_state.specs.Rows.{stored_row}
use Rattle.repo_state.specs.Sides.{has_ref, head_at, ref_place}
use Rattle.repo_state.specs.Sound.{AreAuthorsLocalOf, HasNoFaultOf, HasPart, IsTrueRow}
use Rattle.repo_state.specs.Sound as parts
use Rattle.repo_state.specs.Users.{user_place, user_write}
use Rattle.repo_state.specs.declared.clocks.ClockFile.{ClockFile}
use Rattle.repo_state.specs.declared.clocks.ClockFile.TheVariants as file
use Rattle.repo_state.specs.declared.side.HeadEntry.{HeadEntry}
use Rattle.repo_state.specs.declared.side.Side.{Side}
use Rattle.repo_state.specs.declared.side.Side.TheVariants as side
use Rattle.row_text.specs.Codec.{RowFits}
use Rattle.row_text.specs.Rows.{row_text}
use Rattle.row_text.specs.declared.row.HeadRow.{HeadRow}

-- an object, put under its name where nothing stands, after all that it names
pub record IsObjectWrite (folder : List ℕ) (files : Files) (change : Change) : Type 0 where
  pub texts : List (List ℕ)
  pub puts : PutsAfterNeeds folder texts files change

-- the ref that a head, or none, is
abbrev pub ref_to : Option Name → Ref
ref_to None = Absent
ref_to (Some head) = Head head

-- a head, if there is one, is met by the walk from another: it stands below it
abbrev pub IsBelow : Objects → Option Name → Name → Type 0
IsBelow objects None head = ⊤
IsBelow objects (Some old) head = Meets objects head old

-- a head, if there is one, lies below another in the graph of commits
abbrev pub IsUnder : Objects → Option Name → Name → Type 0
IsUnder objects None head = ⊤
IsUnder objects (Some old) head = Below objects (head ∷ []) old

-- the head of an identity whose chain has no fault, with the present head below it
pub record IsIdentityHeadWrite (folder : List ℕ) (files : Files) (change : Change) : Type 0 where
  pub id : Id
  pub head : Name
  pub is_name : IsName head
  pub present : Option Name
  pub is_present : head_at files folder side.Identities id ≡ ref_to present
  pub below : IsBelow (objects_in files folder) present head
  pub chain : IsChain (objects_in files folder) id head
  pub write : change ≡ ref_write folder (ref_place side.Identities id) head

-- ---- entities of a kind, by its operations and its places

module _ {Op State Row : Type 0} (k : Meaning Op State Row) (at : EntityPlaces) where
  -- the head of an entity, with the present head below it: nothing is wrong with the entity there, and its authors are local identities
  pub record IsEntityHeadWrite (folder : List ℕ) (files : Files) (change : Change) : Type 0 where
    pub id : Id
    pub is_id : IsId id
    pub head : Name
    pub is_name : IsName head
    pub present : Option Name
    pub is_present : head_at files folder at.heads id ≡ ref_to present
    pub below : IsUnder (objects_in files folder) present head
    pub no_fault : HasNoFaultOf k (objects_in files folder) id head
    pub authors : AreAuthorsLocalOf k folder files head
    pub write : change ≡ ref_write folder (ref_place at.heads id) head

-- ---- bugs

-- the head of a bug
abbrev pub IsBugHeadWrite : List ℕ → Files → Change → Type 0
IsBugHeadWrite folder files change = IsEntityHeadWrite bug_kind bug_places folder files change

-- a clock file's number of a bug at this head: the edit clock of the head, or the create clock of its root
abbrev pub IsClockOf : ClockFile → Objects → Name → ℕ → Type 0
IsClockOf file.BugsCreate objects head number = IsRootClock bug_kind objects (head ∷ []) number
IsClockOf file.BugsEdit objects head number = edit_at objects head ≡ Some number

-- a clock, which rises by seeing that of a bug's head
pub record IsClockWrite (folder : List ℕ) (files : Files) (change : Change) : Type 0 where
  pub bug : HeadEntry
  pub is_id : IsId bug.id
  pub is_head : head_at files folder side.Bugs bug.id ≡ Head bug.name
  pub which : ClockFile
  pub number : ℕ
  pub is : IsClockOf which (objects_in files folder) bug.name number
  pub rises : clock_at files folder which < seen_by (clock_at files folder which) number
  pub write : change ≡ clock_write folder which (seen_by (clock_at files folder which) number)

-- the user, an identity whose ref stands
pub record IsUserWrite (folder : List ℕ) (files : Files) (change : Change) : Type 0 where
  pub id : Id
  pub is_id : IsId id
  pub stands : IsTrue (has_ref files folder side.Identities id)
  pub write : change ≡ user_write folder id

-- the row of a bug at its present head, where no row that is stored of it names this head. If the folder's bugs are sound and its rows
-- true, so is this one
pub record IsRowWrite (folder : List ℕ) (files : Files) (change : Change) : Type 0 where
  pub id : Id
  pub is_id : IsId id
  pub row : HeadRow
  pub fits : RowFits row
  pub is_head : head_at files folder side.Bugs id ≡ Head row.head
  pub is_new : (stored : HeadRow) → stored_row files folder id ≡ Some stored → stored.head ≢ row.head
  pub is_true : HasPart parts.Rows folder files → IsTrueRow (objects_in files folder) id row
  pub write : change ≡ row_write folder id (row_text row)

-- a write in a folder is of one of these kinds
pub data IsWrite (folder : List ℕ) (files : Files) (change : Change) : Type 0 where
  an_object : IsObjectWrite folder files change → IsWrite folder files change
  an_identity_head : IsIdentityHeadWrite folder files change → IsWrite folder files change
  a_user : IsUserWrite folder files change → IsWrite folder files change
  a_bug_head : IsBugHeadWrite folder files change → IsWrite folder files change
  a_clock : IsClockWrite folder files change → IsWrite folder files change
  a_row : IsRowWrite folder files change → IsWrite folder files change

-- the places of a folder at which is written: an object's, a ref's, the user's, a clock's, a row's
pub data IsPlace : List ℕ → Type 0 where
  an_object_place : (name : Name) → IsName name → IsPlace (object_place name)
  a_ref_place : (of : Side) (id : Id) → IsId id → IsPlace (ref_place of id)
  the_user_place : IsPlace user_place
  a_clock_place : (which : ClockFile) → IsPlace (clock_place which)
  a_row_place : (id : Id) → IsId id → IsPlace (row_place id)

-- a text holds no dot; so it has no part `..`
abbrev pub is_dotless : List ℕ → Bool
is_dotless text = list_all (λ c. not (c == 46)) text

-- How a head comes into another folder: the objects of its closure, and then the ref.
use Rattle.std.specs.Prelude.{◌≡◌, ◌⊎◌, Bool, List, ◌∷◌, ℕ, Option, Some, None, Result, Ok, Err}
use Rattle.gb_store.specs.Files.{History}
use Rattle.gb_store.specs.Moments.{Wrote}
use Rattle.gb_store.specs.declared.fault.StoreFault.{StoreFault}
use Rattle.gb_store.specs.declared.fault.StoreFault.TheVariants as store
use Rattle.gb_store.specs.declared.store.Change.{Change}
use Rattle.object_store.specs.Held.{objects_after}
use Rattle.ref_store.specs.Setting.{ref_write}
use Rattle.remote_copy.specs.Causes.{CauseHolds}
use Rattle.remote_copy.specs.Copies.{HasNoCause, IsCopied}
use Rattle.remote_copy.specs.Writes.{PutsCopy}
use Rattle.remote_copy.specs.declared.fault.CopyFault.{CopyFault}
use Rattle.remote_copy.specs.declared.fault.CopyFault.TheVariants as fault
use Rattle.repo_state.specs.Sides.{ref_place}
use Rattle.repo_state.specs.declared.side.HeadEntry.{HeadEntry}
use Rattle.repo_state.specs.declared.side.Side.{Side}
use Rattle.sync_steps.specs.declared.line.CopyCause.{CopyCause}
use Rattle.sync_steps.specs.declared.line.CopyCause.TheVariants as cause

-- the refusal of a copy that is told so
abbrev pub fault_of : CopyCause → CopyFault
fault_of (cause.Missing name) = fault.Missing name
fault_of (cause.Damaged name) = fault.Damaged name
fault_of (cause.WrongKind name) = fault.WrongKind name
fault_of (cause.TooLarge count) = fault.TooLarge count
fault_of (cause.Ring name) = fault.Ring name
fault_of (cause.Taken name) = fault.Taken name

-- objects were put, each one of the copy of this head
abbrev pub PutObjects : Bool → List ℕ → List ℕ → HeadEntry → History → History → Type 0
PutObjects closed source target head old new = Wrote (PutsCopy closed source target (objects_after old target) head.name) old new

-- the write of the ref, to this head
abbrev pub head_write : List ℕ → Side → HeadEntry → Change
head_write target to head = ref_write target (ref_place to head.id) head.name

-- nothing kept the copy from being made; all of it was, and then the ref was set
pub record IsCarried (closed : Bool) (source target : List ℕ) (to : Side) (head : HeadEntry) (old new : History) : Type 0 where
  pub mid : History
  pub put : PutObjects closed source target head old mid
  pub no_cause : HasNoCause closed (objects_after old source) (objects_after old target) head.name
  pub copied : IsCopied closed (objects_after old source) (objects_after old target) (objects_after mid target) head.name
  pub set : new ≡ head_write target to head ∷ mid

-- this kept the copy from being made, and the ref was not set
pub record IsRefused (closed : Bool) (source target : List ℕ) (head : HeadEntry) (why : CopyCause) (old new : History) : Type 0 where
  pub put : PutObjects closed source target head old new
  pub cause : CauseHolds closed (objects_after old source) (objects_after old target) head.name (fault_of why)

-- memory ran out, or the disk failed: objects of the copy were put and no ref was set, or all was done
abbrev pub IsCutOff : Bool → List ℕ → List ℕ → Side → HeadEntry → History → History → Type 0
IsCutOff closed source target to head old new = PutObjects closed source target head old new ⊎ IsCarried closed source target to head old new

-- The answer to carrying a head: none, or what keeps it from being carried.
abbrev pub CarryAnswers : Bool → List ℕ → List ℕ → Side → HeadEntry → History → History → Result (Option CopyCause) StoreFault → Type 0
CarryAnswers closed source target to head old new (Ok None) = IsCarried closed source target to head old new
CarryAnswers closed source target to head old new (Ok (Some why)) = IsRefused closed source target head why old new
CarryAnswers closed source target to head old new (Err fault) = IsCutOff closed source target to head old new

-- what a copy was refused for, unless memory ran out or the disk failed
abbrev pub CauseAnswers : CopyFault → Result CopyCause StoreFault → Type 0
CauseAnswers f (Ok why) = f ≡ fault_of why
CauseAnswers f (Err store.Memory) = f ≡ fault.Memory
CauseAnswers f (Err store.Failed) = f ≡ fault.Disk

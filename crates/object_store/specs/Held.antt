-- The objects of one folder, and what a name holds (Git's object format; SHA-1 by FIPS 180-4).
use Rattle.std.specs.Prelude.{◌≡◌, ◌⊎◌, ℕ, ◌<◌, ◌≤◌, ◌&&◌, nat_le, if◌then◌else◌, List, length, Option, Some, None, Result, Ok, Err, ⊤, option_and_then}
use Rattle.std.specs.Str.{bytes_eq}
use Rattle.sha1.specs.Sha1.{sha1}
use Rattle.gb_text.specs.declared.id.Name.{Name}
use Rattle.gb_text.specs.Folder.{joined}
use Rattle.gb_store.specs.Counts.{raised}
use Rattle.gb_store.specs.Files.{Files, History, files_of}
use Rattle.gb_store.specs.ObjectPath.{object_place}
use Rattle.git_object.specs.declared.object.Object.{Object}
use Rattle.git_object.specs.Grammar.{IsObjectText, object_name}
use Rattle.git_object.specs.Reading.{object_of, frame_of}
use Rattle.object_store.specs.declared.read.TheConstants.{MOST_BYTES}
use Rattle.object_store.specs.declared.read.Raw.{Raw}
use Rattle.object_store.specs.declared.fault.ObjFault.{ObjFault}
use Rattle.object_store.specs.declared.fault.ObjFault.TheVariants as fault

-- the object files of a folder, by the names under which they stand
abbrev pub Objects : Type 0
Objects = Name → Option (List ℕ)

-- those of the folder with this text
abbrev pub objects_in : Files → List ℕ → Objects
objects_in files folder = λ name. files (joined folder (object_place name))

-- those that these writes leave
abbrev pub objects_after : History → List ℕ → Objects
objects_after history folder = objects_in (files_of history) folder

-- the file under a name, where it has at most 4,194,304 bytes and that SHA-1
abbrev pub named : Name → List ℕ → Option (List ℕ)
named name text = if nat_le (length text) MOST_BYTES && bytes_eq (sha1 text) name.bytes then Some text else None

-- the object text that stands under a name, if one does
abbrev pub text_at : Objects → Name → Option (List ℕ)
text_at objects name = option_and_then (named name) (objects name)

-- the object that a name holds, if it holds one
abbrev pub object_at : Objects → Name → Option Object
object_at objects name = option_and_then object_of (text_at objects name)

-- a name holds an object: the file at its path has at most 4,194,304 bytes, is the object's text and has that SHA-1
pub record IsHeld (objects : Objects) (name : Name) (o : Object) : Type 0 where
  pub text : List ℕ
  pub stands : objects name ≡ Some text
  pub within : length text ≤ MOST_BYTES
  pub is_named : object_name text ≡ name
  pub is : IsObjectText text o

-- ---- what keeps a name from holding an object

-- a file that has more than 4,194,304 bytes
pub record IsLarge (file : Option (List ℕ)) : Type 0 where
  pub text : List ℕ
  pub stands : file ≡ Some text
  pub long : MOST_BYTES < length text

-- a name under which a file of at most 4,194,304 bytes stands that is no object text with that SHA-1
pub record IsDamaged (objects : Objects) (name : Name) : Type 0 where
  pub text : List ℕ
  pub stands : objects name ≡ Some text
  pub within : length text ≤ MOST_BYTES
  pub is_none : object_at objects name ≡ None

-- what keeps a name from holding an object, one case a fault
abbrev pub ObjectFaultHolds : Objects → Name → ObjFault → Type 0
ObjectFaultHolds objects name fault.Memory = ⊥
ObjectFaultHolds objects name fault.Disk = ⊥
ObjectFaultHolds objects name (fault.Missing n) = (n ≡ name) × (objects name ≡ None)
ObjectFaultHolds objects name (fault.Damaged n) = (n ≡ name) × IsDamaged objects name
ObjectFaultHolds objects name (fault.Large n) = (n ≡ name) × IsLarge (objects name)

-- something keeps a name from holding an object
abbrev pub HasObjectFault : Objects → Name → Type 0
HasObjectFault objects name = (f : ObjFault) × ObjectFaultHolds objects name f

-- ---- the answers to reads

-- a refusal to read a name, for a fault that holds; want of memory and faults of the disk have no cause there
abbrev pub ObjectRefused : Objects → Name → ObjFault → Type 0
ObjectRefused objects name fault.Memory = ⊤
ObjectRefused objects name fault.Disk = ⊤
ObjectRefused objects name f = ObjectFaultHolds objects name f

-- the answer to a read of the text under a name
abbrev pub AnswersText : Objects → Name → Result (List ℕ) ObjFault → Type 0
AnswersText objects name (Ok text) = text_at objects name ≡ Some text
AnswersText objects name (Err e) = ObjectRefused objects name e

-- the answer to a read of a name: the object that it holds, or why it holds none
abbrev pub Answers : Objects → Name → Result Object ObjFault → Type 0
Answers objects name (Ok o) = object_at objects name ≡ Some o
Answers objects name (Err e) = ObjectRefused objects name e

-- the same of the object's kind and content as they stand in its text
abbrev pub AnswersRaw : Objects → Name → Result Raw ObjFault → Type 0
AnswersRaw objects name (Ok raw) =
    (o : Object) × (object_at objects name ≡ Some o)
    × (option_and_then frame_of (text_at objects name) ≡ Some (raw.kind, raw.content))
AnswersRaw objects name (Err e) = ObjectRefused objects name e

-- one object was read, but perhaps not where memory ran out
abbrev pub ReadsOne : (memory : Type 0) → ℕ → ℕ → Type 0
ReadsOne memory old new = (new ≡ raised old) ⊎ (memory × (new ≡ old))

-- what stood at a path was read, or memory ran out or the disk failed
abbrev pub IsReadOrStopped : {T : Type 0} → Result T ObjFault → Type 0
IsReadOrStopped (Ok value) = ⊤
IsReadOrStopped (Err fault.Memory) = ⊤
IsReadOrStopped (Err fault.Disk) = ⊤
IsReadOrStopped (Err _) = ⊥

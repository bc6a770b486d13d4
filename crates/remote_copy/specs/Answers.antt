-- The answers to reads in the source, and to looks and puts in the target.
use Rattle.std.specs.Prelude.{◌≡◌, ◌≢◌, ◌+◌, Bool, true, false, ℕ, List, ◌∷◌, Option, Some, None, Result, Ok, Err, option_and_then, if◌then◌else◌, ⊤}
use Rattle.gb_text.specs.declared.id.Name.{Name}
use Rattle.gb_text.specs.Folder.{joined}
use Rattle.gb_store.specs.Files.{History, Put}
use Rattle.gb_store.specs.Moments.{MaybeWrote}
use Rattle.gb_store.specs.ObjectPath.{object_place}
use Rattle.git_object.specs.declared.frame.Kind.TheVariants as kinds
use Rattle.git_object.specs.declared.object.Object.{Object}
use Rattle.git_object.specs.Reading.{object_of}
use Rattle.object_store.specs.Held.{IsDamaged, IsLarge, Objects, named, text_at}
use Rattle.object_store.specs.declared.read.TheConstants.{MOST_BYTES}
use Rattle.object_batch.specs.Needs.{IsHeldAs}
use Rattle.remote_copy.specs.declared.fault.CopyFault.{CopyFault}
use Rattle.remote_copy.specs.declared.fault.CopyFault.TheVariants as fault
use Rattle.remote_copy.specs.declared.find.Found.{Found}

-- the object of a text, where the text has this name
abbrev pub object_named : Name → List ℕ → Option Object
object_named name text = option_and_then object_of (named name text)

-- an answer, or memory ran out or the disk failed
abbrev pub IsStop : {T : Type 0} → Result T CopyFault → Type 0
IsStop (Ok value) = ⊤
IsStop (Err fault.Memory) = ⊤
IsStop (Err fault.Disk) = ⊤
IsStop (Err _) = ⊥

-- why a name has no object in the source; want of memory and faults of the disk have no cause there
abbrev pub FindRefused : Objects → Name → CopyFault → Type 0
FindRefused objects name fault.Memory = ⊤
FindRefused objects name fault.Disk = ⊤
FindRefused objects name (fault.Missing n) = (n ≡ name) × (objects name ≡ None)
FindRefused objects name (fault.Damaged n) = (n ≡ name) × IsDamaged objects name
FindRefused objects name (fault.TooLarge count) = (count ≡ MOST_BYTES + 1) × IsLarge (objects name)
FindRefused objects name _ = ⊥

-- the object that a name holds, with its text
abbrev pub FindAnswers : Objects → Name → Result Found CopyFault → Type 0
FindAnswers objects name (Ok found) = (text_at objects name ≡ Some found.text) × (object_of found.text ≡ Some found.object)
FindAnswers objects name (Err e) = FindRefused objects name e

-- whether a name holds a commit
abbrev pub HoldsCommit : Objects → Name → Bool → Type 0
HoldsCommit objects name true = IsHeldAs objects name kinds.Commit
HoldsCommit objects name false = IsHeldAs objects name kinds.Commit → ⊥

-- other bytes than a text stand under a name
pub record StandsOther (objects : Objects) (name : Name) (text : List ℕ) : Type 0 where
  pub other : List ℕ
  pub stands : objects name ≡ Some other
  pub differs : other ≢ text

-- the text stands, or nothing does
abbrev pub standing : Bool → List ℕ → Option (List ℕ)
standing there text = if there then Some text else None

-- whether a text stands under a name
abbrev pub StandAnswers : Objects → Name → List ℕ → Result Bool CopyFault → Type 0
StandAnswers objects name text (Ok there) = objects name ≡ standing there text
StandAnswers objects name text (Err (fault.Taken n)) = (n ≡ name) × StandsOther objects name text
StandAnswers objects name text (Err _) = ⊥

-- a text was put at the path of a name
abbrev pub PutAnswers : List ℕ → Name → List ℕ → History → History → Result Unit CopyFault → Type 0
PutAnswers folder name text old new (Ok _) = new ≡ Put (joined folder (object_place name)) text ∷ old
PutAnswers folder name text old new (Err fault.Memory) = new ≡ old
PutAnswers folder name text old new (Err fault.Disk) = MaybeWrote (Put (joined folder (object_place name)) text) old new
PutAnswers folder name text old new (Err _) = ⊥

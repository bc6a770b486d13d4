-- What was read for a name, over stores that show their files and stores that do not.
use Rattle.std.specs.Prelude.{◌≡◌, ◌≤◌, ⊤, ℕ, List, length, Result, Ok, Err}
use Rattle.gb_text.specs.declared.id.Name.{Name}
use Rattle.git_object.specs.declared.object.Object.{Object}
use Rattle.git_object.specs.Grammar.{IsObjectText, framed, object_name}
use Rattle.object_store.specs.Texts.{HasObject}
use Rattle.object_store.specs.declared.read.TheConstants.{MOST_BYTES}
use Rattle.object_store.specs.declared.read.Raw.{Raw}
use Rattle.object_store.specs.declared.fault.ObjFault.{ObjFault}
use Rattle.object_store.specs.declared.fault.ObjFault.TheVariants as fault

-- a text has the SHA-1 that a name says, and at most 4,194,304 bytes
pub record IsNamedBy (name : Name) (text : List ℕ) : Type 0 where
  pub within : length text ≤ MOST_BYTES
  pub is_named : object_name text ≡ name

-- an object whose text has the name
pub record IsObjectOf (name : Name) (object : Object) : Type 0 where
  pub text : List ℕ
  pub is : IsObjectText text object
  pub fits : IsNamedBy name text

-- a kind and a content are those of some object, whose text has the name
pub record IsRawOf (name : Name) (raw : Raw) : Type 0 where
  pub has : HasObject raw.kind raw.content
  pub fits : IsNamedBy name (framed raw.kind raw.content)

-- a fault of reading a name carries that name
abbrev pub Carries : Name → ObjFault → Type 0
Carries name fault.Memory = ⊤
Carries name fault.Disk = ⊤
Carries name (fault.Missing n) = n ≡ name
Carries name (fault.Damaged n) = n ≡ name
Carries name (fault.Large n) = n ≡ name

-- the answer is for this name: what was read has it, or the fault carries it
abbrev pub IsFor : {T : Type 0} → (T → Type 0) → Name → Result T ObjFault → Type 0
IsFor Has name (Ok value) = Has value
IsFor Has name (Err e) = Carries name e

-- The answers to opening an object.
use Rattle.std.specs.Prelude.{◌≡◌, ◌≤◌, ◌+◌, ◌⊎◌, Bool, true, false, ℕ, List, Option, Some, None, Result, Ok, Err, ⊤}
use Rattle.git_object.specs.declared.object.Object.{Object}
use Rattle.git_object.specs.Grammar.{kind_of}
use Rattle.git_object.specs.Reading.{object_of}
use Rattle.object_store.specs.Held.{IsDamaged, IsLarge, Objects, text_at}
use Rattle.object_store.specs.declared.read.TheConstants.{MOST_BYTES}
use Rattle.object_batch.specs.Needs.{Reference}
use Rattle.remote_copy.specs.Answers.{standing}
use Rattle.remote_copy.specs.Causes.{IsOfOtherKind, IsTaken}
use Rattle.remote_copy.specs.Closure.{IsLeft}
use Rattle.remote_copy.specs.Needs.{needs_of}
use Rattle.remote_copy.specs.declared.fault.CopyFault.{CopyFault}
use Rattle.remote_copy.specs.declared.fault.CopyFault.TheVariants as fault
use Rattle.remote_copy.specs.declared.need.Need.{Need}
use Rattle.remote_copy.specs.declared.open.Open.{Open}

-- what the code names, as what definitions name
abbrev pub ref_of : Need → Reference
ref_of need = record { name = need.name; kind = need.kind }

-- the object that the source holds under a name, as of its kind
pub record IsSource (source : Objects) (need : Need) (text : List ℕ) (object : Object) : Type 0 where
  pub held : text_at source need.name ≡ Some text
  pub is : object_of text ≡ Some object
  pub is_kind : kind_of object ≡ need.kind

-- an object that was just opened
pub record IsBegun (source target : Objects) (need : Need) (item : Open) : Type 0 where
  pub object : Object
  pub is_need : item.need ≡ need
  pub is : IsSource source item.need item.text object
  pub needs : item.needs.items ≡ needs_of object
  pub start : item.next ≡ 0
  pub there : target item.need.name ≡ standing item.stands item.text

-- why an object was not opened; want of memory and faults of the disk have no cause there
abbrev pub OpenRefused : Objects → Objects → Need → CopyFault → Type 0
OpenRefused source target need fault.Memory = ⊤
OpenRefused source target need fault.Disk = ⊤
OpenRefused source target need (fault.Missing n) = (n ≡ need.name) × (source need.name ≡ None)
OpenRefused source target need (fault.Damaged n) = (n ≡ need.name) × IsDamaged source need.name
OpenRefused source target need (fault.WrongKind n) = (n ≡ need.name) × IsOfOtherKind source (ref_of need)
OpenRefused source target need (fault.TooLarge count) = (count ≡ MOST_BYTES + 1) × IsLarge (source need.name)
OpenRefused source target need (fault.Ring n) = ⊥
OpenRefused source target need (fault.Taken n) = (n ≡ need.name) × IsTaken source target need.name

abbrev pub OpenAnswers : Objects → Objects → Need → Result Open CopyFault → Type 0
OpenAnswers source target need (Ok item) = IsBegun source target need item
OpenAnswers source target need (Err e) = OpenRefused source target need e

-- an object was opened, or is a commit that is left
abbrev pub BeginAnswers : Bool → Objects → Objects → Need → Result (Option Open) CopyFault → Type 0
BeginAnswers closed source target need (Ok None) = IsLeft closed target (ref_of need)
BeginAnswers closed source target need (Ok (Some item)) = (IsLeft closed target (ref_of need) → ⊥) × IsBegun source target need item
BeginAnswers closed source target need (Err fault.Memory) = ⊤
BeginAnswers closed source target need (Err fault.Disk) = ⊤
BeginAnswers closed source target need (Err e) = (IsLeft closed target (ref_of need) → ⊥) × OpenRefused source target need e

-- what opening an object reads: it in the target, and in the source unless it is a commit that is left
abbrev pub BeginReads : Bool → Objects → Need → ℕ → ℕ → Type 0
BeginReads closed target need before after = (after ≤ before + 1) ⊎ ((IsLeft closed target (ref_of need) → ⊥) × (after ≤ before + 2))

-- whether an object is a commit that is left
abbrev pub LeftAnswers : Bool → Objects → Need → Bool → Type 0
LeftAnswers closed target need true = IsLeft closed target (ref_of need)
LeftAnswers closed target need false = IsLeft closed target (ref_of need) → ⊥

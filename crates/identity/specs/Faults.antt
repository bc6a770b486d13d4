-- What a fault of reading an object, and what stops a walk, is to a person.
use Rattle.std.specs.Prelude.{⊤, ◌+◌}
use Rattle.gb_text.specs.declared.id.Name.{Name}
use Rattle.object_store.specs.declared.read.TheConstants.{MOST_BYTES}
use Rattle.commit_walk.specs.declared.below.TheConstants.{MOST_COMMITS}
use Rattle.object_store.specs.declared.fault.KindFault.{KindFault}
use Rattle.object_store.specs.declared.fault.KindFault.TheVariants as object
use Rattle.commit_walk.specs.declared.fault.WalkFault.TheVariants as walk
use Rattle.commit_walk.specs.declared.fault.ChainStop.{ChainStop}
use Rattle.commit_walk.specs.declared.fault.ChainStop.TheVariants as stop
use Rattle.identity.specs.declared.fault.IdentityFault.{IdentityFault}
use Rattle.identity.specs.declared.fault.IdentityFault.TheVariants as fault

-- of reading a commit
abbrev pub fault_of : KindFault → IdentityFault
fault_of object.Memory = fault.Memory
fault_of object.Disk = fault.Disk
fault_of (object.Missing name) = fault.Missing name
fault_of (object.Damaged name) = fault.Damaged name
fault_of (object.Large name) = fault.TooLarge (MOST_BYTES + 1)
fault_of (object.OtherKind name) = fault.NotCommit name

-- of reading the tree or the text of the version of a commit with this name
abbrev pub version_fault : Name → KindFault → IdentityFault
version_fault of (object.OtherKind name) = fault.BadVersion of
version_fault of f = fault_of f

-- of a walk
abbrev pub fault_of_stop : ChainStop → IdentityFault
fault_of_stop stop.Memory = fault.Memory
fault_of_stop stop.Disk = fault.Disk
fault_of_stop (stop.Merge name) = fault.NotLinear name
fault_of_stop (stop.Fault (walk.Missing name)) = fault.Missing name
fault_of_stop (stop.Fault (walk.Damaged name)) = fault.Damaged name
fault_of_stop (stop.Fault (walk.Large name)) = fault.TooLarge (MOST_BYTES + 1)
fault_of_stop (stop.Fault (walk.NotCommit name)) = fault.NotCommit name
fault_of_stop (stop.Fault walk.TooMany) = fault.TooLarge (MOST_COMMITS + 1)

-- a refusal for a fault that holds; want of memory and faults of the disk have no cause here
abbrev pub Refused : (IdentityFault → Type 0) → IdentityFault → Type 0
Refused Holds fault.Memory = ⊤
Refused Holds fault.Disk = ⊤
Refused Holds f = Holds f

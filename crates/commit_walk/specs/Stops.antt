-- What a fault of reading a commit is to a walk, and what that is to a walk along a chain.
use Rattle.object_store.specs.declared.fault.KindFault.{KindFault}
use Rattle.object_store.specs.declared.fault.KindFault.TheVariants as kind
use Rattle.commit_walk.specs.declared.fault.WalkFault.TheVariants as fault
use Rattle.commit_walk.specs.declared.fault.WalkStop.{WalkStop}
use Rattle.commit_walk.specs.declared.fault.WalkStop.TheVariants as stop
use Rattle.commit_walk.specs.declared.fault.ChainStop.{ChainStop}
use Rattle.commit_walk.specs.declared.fault.ChainStop.TheVariants as chain

abbrev pub stop_of : KindFault → WalkStop
stop_of kind.Memory = stop.Memory
stop_of kind.Disk = stop.Disk
stop_of (kind.Missing name) = stop.Fault (fault.Missing name)
stop_of (kind.Damaged name) = stop.Fault (fault.Damaged name)
stop_of (kind.Large name) = stop.Fault (fault.Large name)
stop_of (kind.OtherKind name) = stop.Fault (fault.NotCommit name)

abbrev pub chain_stop : WalkStop → ChainStop
chain_stop stop.Memory = chain.Memory
chain_stop stop.Disk = chain.Disk
chain_stop (stop.Fault f) = chain.Fault f

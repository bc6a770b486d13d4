-- What a fault of a lower layer is to a turn, and what ends a merge.
use Rattle.gb_store.specs.declared.fault.StoreFault.{StoreFault}
use Rattle.gb_store.specs.declared.fault.StoreFault.TheVariants as store
use Rattle.object_store.specs.declared.fault.PutFault.{PutFault}
use Rattle.object_store.specs.declared.fault.PutFault.TheVariants as put
use Rattle.repo_state.specs.declared.stop.ReadStop.{ReadStop}
use Rattle.repo_state.specs.declared.stop.ReadStop.TheVariants as read
use Rattle.merge_steps.specs.declared.stop.MergeStop.{MergeStop}
use Rattle.merge_steps.specs.declared.stop.MergeStop.TheVariants as stop
use Rattle.merge_steps.specs.declared.stop.TurnStop.{TurnStop}
use Rattle.merge_steps.specs.declared.stop.TurnStop.TheVariants as turn

-- ---- of a turn

abbrev pub turn_of_store : StoreFault → TurnStop
turn_of_store store.Memory = turn.Memory
turn_of_store store.Failed = turn.Disk

abbrev pub turn_of_read : ReadStop → TurnStop
turn_of_read read.Memory = turn.Memory
turn_of_read read.Disk = turn.Disk
turn_of_read (read.Damaged path) = turn.Damaged path

-- of putting objects, none of which is too large
abbrev pub turn_of_put : PutFault → TurnStop
turn_of_put put.Memory = turn.Memory
turn_of_put put.Disk = turn.Disk
turn_of_put (put.Taken name) = turn.Taken name
turn_of_put (put.Large count) = turn.Memory

-- ---- of a merge

abbrev pub stop_of_store : StoreFault → MergeStop
stop_of_store store.Memory = stop.Memory
stop_of_store store.Failed = stop.Disk

abbrev pub stop_of_read : ReadStop → MergeStop
stop_of_read read.Memory = stop.Memory
stop_of_read read.Disk = stop.Disk
stop_of_read (read.Damaged path) = stop.Damaged path

-- why a call ended at a turn
abbrev pub stop_of_turn : TurnStop → MergeStop
stop_of_turn turn.Memory = stop.Memory
stop_of_turn turn.Disk = stop.Disk
stop_of_turn (turn.Damaged path) = stop.Damaged path
stop_of_turn (turn.Taken name) = stop.Taken name

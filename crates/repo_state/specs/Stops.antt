-- What a fault of a lower layer is to a read of a folder, and to a search in it.
use Rattle.gb_store.specs.declared.fault.StoreFault.{StoreFault}
use Rattle.gb_store.specs.declared.fault.StoreFault.TheVariants as store
use Rattle.ref_store.specs.declared.fault.RefFault.{RefFault}
use Rattle.ref_store.specs.declared.fault.RefFault.TheVariants as ref
use Rattle.repo_state.specs.declared.stop.FindStop.{FindStop}
use Rattle.repo_state.specs.declared.stop.FindStop.TheVariants as find
use Rattle.repo_state.specs.declared.stop.Missed.TheVariants as missed
use Rattle.repo_state.specs.declared.stop.ReadStop.{ReadStop}
use Rattle.repo_state.specs.declared.stop.ReadStop.TheVariants as read

abbrev pub read_of_store : StoreFault → ReadStop
read_of_store store.Memory = read.Memory
read_of_store store.Failed = read.Disk

abbrev pub read_of_ref : RefFault → ReadStop
read_of_ref ref.Memory = read.Memory
read_of_ref ref.Disk = read.Disk
read_of_ref (ref.BadRef path) = read.Damaged path

abbrev pub find_of_store : StoreFault → FindStop
find_of_store store.Memory = find.Memory
find_of_store store.Failed = find.Disk

abbrev pub find_of_read : ReadStop → FindStop
find_of_read read.Memory = find.Memory
find_of_read read.Disk = find.Disk
find_of_read (read.Damaged path) = find.Missed (missed.Damaged path)

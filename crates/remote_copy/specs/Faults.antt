-- What a fault of the store is to a copy.
use Rattle.gb_store.specs.declared.fault.StoreFault.{StoreFault}
use Rattle.gb_store.specs.declared.fault.StoreFault.TheVariants as store
use Rattle.remote_copy.specs.declared.fault.CopyFault.{CopyFault}
use Rattle.remote_copy.specs.declared.fault.CopyFault.TheVariants as copy

abbrev pub copy_fault : StoreFault → CopyFault
copy_fault store.Memory = copy.Memory
copy_fault store.Failed = copy.Disk

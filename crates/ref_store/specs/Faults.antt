-- What a fault of the store is to a call on refs.
use Rattle.gb_store.specs.declared.fault.StoreFault.{StoreFault}
use Rattle.gb_store.specs.declared.fault.StoreFault.TheVariants as store
use Rattle.ref_store.specs.declared.fault.RefFault.{RefFault}
use Rattle.ref_store.specs.declared.fault.RefFault.TheVariants as fault

abbrev pub ref_fault : StoreFault → RefFault
ref_fault store.Memory = fault.Memory
ref_fault store.Failed = fault.Disk

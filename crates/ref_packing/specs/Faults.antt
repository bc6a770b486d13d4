-- What faults below are to a pack.
use Rattle.gb_store.specs.declared.fault.StoreFault.{StoreFault}
use Rattle.gb_store.specs.declared.fault.StoreFault.TheVariants as store
use Rattle.ref_store.specs.declared.fault.RefFault.{RefFault}
use Rattle.ref_store.specs.declared.fault.RefFault.TheVariants as ref
use Rattle.ref_packing.specs.declared.fault.PackFault.{PackFault}
use Rattle.ref_packing.specs.declared.fault.PackFault.TheVariants as fault

abbrev pub of_store : StoreFault → PackFault
of_store store.Memory = fault.Memory
of_store store.Failed = fault.Disk

abbrev pub of_ref : RefFault → PackFault
of_ref ref.Memory = fault.Memory
of_ref ref.Disk = fault.Disk
of_ref (ref.BadRef at) = fault.BadRef at

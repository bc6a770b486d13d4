-- What a fault of the store is to a call on objects.
use Rattle.gb_store.specs.declared.fault.StoreFault.{StoreFault}
use Rattle.gb_store.specs.declared.fault.StoreFault.TheVariants as store
use Rattle.object_store.specs.declared.fault.ObjFault.{ObjFault}
use Rattle.object_store.specs.declared.fault.ObjFault.TheVariants as object
use Rattle.object_store.specs.declared.fault.KindFault.{KindFault}
use Rattle.object_store.specs.declared.fault.KindFault.TheVariants as kind
use Rattle.object_store.specs.declared.fault.PutFault.{PutFault}
use Rattle.object_store.specs.declared.fault.PutFault.TheVariants as put

abbrev pub object_fault : StoreFault → ObjFault
object_fault store.Memory = object.Memory
object_fault store.Failed = object.Disk

abbrev pub put_fault : StoreFault → PutFault
put_fault store.Memory = put.Memory
put_fault store.Failed = put.Disk

abbrev pub kind_fault : ObjFault → KindFault
kind_fault object.Memory = kind.Memory
kind_fault object.Disk = kind.Disk
kind_fault (object.Missing name) = kind.Missing name
kind_fault (object.Damaged name) = kind.Damaged name
kind_fault (object.Large name) = kind.Large name

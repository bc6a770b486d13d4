-- What a fault of an entity, and of putting the objects of a merge commit, is to a join.
use Rattle.object_store.specs.declared.fault.PutFault.{PutFault}
use Rattle.object_store.specs.declared.fault.PutFault.TheVariants as put
use Rattle.dag_entity.specs.declared.fault.EntityFault.{EntityFault}
use Rattle.dag_entity.specs.declared.fault.EntityFault.TheVariants as fault
use Rattle.entity_merge.specs.declared.fault.MergeFault.{MergeFault}
use Rattle.entity_merge.specs.declared.fault.MergeFault.TheVariants as stop

-- of an entity
abbrev pub merge_stop : EntityFault → MergeFault
merge_stop fault.Memory = stop.Memory
merge_stop fault.Disk = stop.Disk
merge_stop f = stop.Invalid f

-- of putting objects, none of which is too large
abbrev pub put_stop : PutFault → MergeFault
put_stop put.Memory = stop.Memory
put_stop put.Disk = stop.Disk
put_stop (put.Taken name) = stop.Taken name
put_stop (put.Large count) = stop.Memory

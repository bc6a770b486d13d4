-- What a fault of reading an object, and one of a pack, is to a commit.
use Rattle.object_store.specs.declared.fault.KindFault.{KindFault}
use Rattle.object_store.specs.declared.fault.KindFault.TheVariants as kind
use Rattle.op_pack.specs.declared.fault.PackFault.{PackFault}
use Rattle.op_pack.specs.declared.fault.PackFault.TheVariants as pack
use Rattle.commit_pack.specs.declared.fault.CommitPackFault.{CommitPackFault}
use Rattle.commit_pack.specs.declared.fault.CommitPackFault.TheVariants as fault

-- of reading its tree
abbrev pub tree_fault : KindFault → CommitPackFault
tree_fault kind.Memory = fault.Memory
tree_fault kind.Disk = fault.Disk
tree_fault (kind.Missing name) = fault.Missing name
tree_fault (kind.Damaged name) = fault.Damaged name
tree_fault (kind.Large name) = fault.Large name
tree_fault (kind.OtherKind name) = fault.BadTree

-- of reading what the tree's file `ops` names
abbrev pub ops_fault : KindFault → CommitPackFault
ops_fault (kind.OtherKind name) = fault.NoOps
ops_fault f = tree_fault f

-- of the tree and of the text
abbrev pub pack_fault : PackFault → CommitPackFault
pack_fault pack.Memory = fault.Memory
pack_fault (pack.UnknownVersion n) = fault.UnknownVersion n
pack_fault pack.NoOps = fault.NoOps
pack_fault pack.BadClock = fault.BadClock
pack_fault pack.BadPack = fault.BadPack
pack_fault (pack.BadOperation i f) = fault.BadOperation i f
pack_fault (pack.TooLarge n) = fault.TooLarge n

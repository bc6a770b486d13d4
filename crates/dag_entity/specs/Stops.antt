-- What a fault of a walk, of a pack and of a graph is to an entity.
use Rattle.std.specs.Prelude.{◌+◌, ⊤}
use Rattle.gb_text.specs.declared.id.Name.{Name}
use Rattle.object_store.specs.declared.read.TheConstants.{MOST_BYTES}
use Rattle.commit_walk.specs.declared.below.TheConstants.{MOST_COMMITS}
use Rattle.commit_walk.specs.declared.fault.WalkFault.TheVariants as walk
use Rattle.commit_walk.specs.declared.fault.WalkStop.{WalkStop}
use Rattle.commit_walk.specs.declared.fault.WalkStop.TheVariants as stop
use Rattle.commit_pack.specs.declared.fault.CommitPackFault.{CommitPackFault}
use Rattle.commit_pack.specs.declared.fault.CommitPackFault.TheVariants as pack
use Rattle.dag_graph.specs.declared.fault.GraphFault.{GraphFault}
use Rattle.dag_graph.specs.declared.fault.GraphFault.TheVariants as graph
use Rattle.dag_entity.specs.declared.fault.EntityFault.{EntityFault}
use Rattle.dag_entity.specs.declared.fault.EntityFault.TheVariants as fault

-- of the walk over the commits
abbrev pub walk_stop : WalkStop → EntityFault
walk_stop stop.Memory = fault.Memory
walk_stop stop.Disk = fault.Disk
walk_stop (stop.Fault (walk.Missing name)) = fault.Missing name
walk_stop (stop.Fault (walk.Damaged name)) = fault.Damaged name
walk_stop (stop.Fault (walk.Large name)) = fault.TooLarge (MOST_BYTES + 1)
walk_stop (stop.Fault (walk.NotCommit name)) = fault.NotCommit name
walk_stop (stop.Fault walk.TooMany) = fault.TooLarge (MOST_COMMITS + 1)

-- of reading the pack of a commit
abbrev pub pack_stop : Name → CommitPackFault → EntityFault
pack_stop commit pack.Memory = fault.Memory
pack_stop commit pack.Disk = fault.Disk
pack_stop commit (pack.Missing name) = fault.Missing name
pack_stop commit (pack.Damaged name) = fault.Damaged name
pack_stop commit (pack.Large name) = fault.TooLarge (MOST_BYTES + 1)
pack_stop commit pack.BadTree = fault.BadTree commit
pack_stop commit (pack.UnknownVersion n) = fault.UnknownVersion commit n
pack_stop commit pack.NoOps = fault.NoOps commit
pack_stop commit pack.BadClock = fault.BadClock commit
pack_stop commit pack.BadPack = fault.BadPack commit
pack_stop commit (pack.BadOperation i f) = fault.BadOperation commit i f
pack_stop commit (pack.TooLarge n) = fault.TooLarge n

-- of the graph of the commits
abbrev pub graph_fault : GraphFault → EntityFault
graph_fault (graph.SecondRoot name) = fault.SecondRoot name
graph_fault (graph.ClockOrder high low) = fault.ClockOrder high low
graph_fault (graph.ClockJump high low) = fault.ClockJump high low
graph_fault (graph.MergeHasOperations name) = fault.MergeHasOperations name

-- a refusal for a fault that holds; want of memory and faults of the disk have no cause here
abbrev pub Refused : (EntityFault → Type 0) → EntityFault → Type 0
Refused Holds fault.Memory = ⊤
Refused Holds fault.Disk = ⊤
Refused Holds f = Holds f

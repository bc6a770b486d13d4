use Rattle.std.proofs.Common.{◌<◌, Contains, take}
use Rattle.dag_graph.specs.declared.node.Node.{Node}
use Rattle.dag_graph.proofs.check.check_node.Given as goal

abbrev pub invariant-loop-parent : goal.invariant-loop-parent
invariant-loop-parent l = (low : Node) → Contains l.nodes low → Contains (take l.parent-index l.parents) low.name → low.edit < l.node.edit

use Rattle.std.proofs.Common.{◌<◌, ℕ, Contains}
use Rattle.std.specs.BTreeMap.{get}
use Rattle.std.specs.Option.{IsSome}
use Rattle.gb_text.specs.declared.id.Name.{Name}
use Rattle.dag_graph.specs.Nodes.{node_at}
use Rattle.dag_graph.specs.Index.{name_cmp}
use Rattle.commit_tests.proofs.graphs.are_nodes.Given as goal

abbrev pub invariant-loop-node : goal.invariant-loop-node
invariant-loop-node l = (k : ℕ) → k < l.node-index → (name : Name) → Contains (node_at l.nodes k).parents name → IsSome (get name_cmp l.places name)

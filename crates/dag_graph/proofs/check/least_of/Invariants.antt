use Rattle.std.proofs.Common.{◌<◌, ◌≤◌, ℕ, length}
use Rattle.dag_graph.specs.Nodes.{node_at}
use Rattle.dag_graph.proofs.check.least_of.Given as goal

abbrev pub invariant-loop-place : goal.invariant-loop-place
invariant-loop-place l = record {
  within : l.least < length l.nodes;
  least : (k : ℕ) → k < l.place → (node_at l.nodes l.least).edit ≤ (node_at l.nodes k).edit;
}

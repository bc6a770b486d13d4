use Rattle.std.proofs.Common.{◌≡◌, ◌<◌, ℕ, []}
use Rattle.dag_graph.specs.Faults.{IsGood}
use Rattle.dag_graph.specs.Nodes.{node_at}
use Rattle.dag_graph.proofs.check.check_graph.Given as goal

abbrev pub invariant-loop-place : goal.invariant-loop-place
invariant-loop-place l = record {
  good : (k : ℕ) → k < l.place → IsGood l.nodes (node_at l.nodes k);
  no_root : (k : ℕ) → k < l.place → (k ≡ l.least → ⊥) → (node_at l.nodes k).parents ≡ [] → ⊥;
}

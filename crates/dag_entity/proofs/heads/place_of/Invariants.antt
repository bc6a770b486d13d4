use Rattle.std.proofs.Common.{◌≡◌, ◌<◌, ℕ}
use Rattle.dag_graph.specs.Nodes.{node_at}
use Rattle.dag_entity.proofs.heads.place_of.Given as goal

abbrev pub invariant-loop-place : goal.invariant-loop-place
invariant-loop-place l = (k : ℕ) → k < l.place → (node_at l.nodes k).name ≡ l.name → ⊥

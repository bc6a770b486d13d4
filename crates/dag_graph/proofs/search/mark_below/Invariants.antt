use Rattle.std.proofs.Common.{◌≤◌, ◌-◌, length, take}
use Rattle.dag_graph.specs.Search.{AreFound}
use Rattle.dag_graph.proofs.SearchLemmas.{Reaches}
use Rattle.dag_graph.proofs.search.mark_below.Given as goal

abbrev pub invariant-loop-turn : goal.invariant-loop-turn
invariant-loop-turn l = record {
  turn : l.turn ≤ l.count;
  count : l.count ≤ length l.queue;
  found : AreFound l.met (take l.count l.queue);
  reaches : Reaches l.nodes l.high (take l.count l.queue) l.turn;
}

abbrev pub decreases-loop-turn : goal.decreases-loop-turn
decreases-loop-turn l = length l.nodes - l.turn

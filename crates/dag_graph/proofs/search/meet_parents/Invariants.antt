use Rattle.std.proofs.Common.{◌≤◌, length, take}
use Rattle.dag_graph.specs.Search.{AreFound, Follows}
use Rattle.dag_graph.proofs.search.meet_parents.Given as goal

abbrev pub invariant-loop-parent : goal.invariant-loop-parent
invariant-loop-parent l = record {
  count : l.found ≤ length l.queue;
  found : AreFound l.met (take l.found l.queue);
  follows : Follows l.nodes (take l.parent-index l.parent-items) (take l.count l.fn.queue) (take l.found l.queue);
}

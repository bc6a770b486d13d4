use Rattle.dag_graph.proofs.ClockLemmas.{ring_falls}
use Rattle.dag_graph.proofs.laws.a_ring_has_a_clock_fault.Goals as goal

pub returns : goal.returns
returns c = λ nodes name are. ring_falls nodes are name

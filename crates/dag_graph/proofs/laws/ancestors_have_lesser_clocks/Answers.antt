use Rattle.dag_graph.proofs.ClockLemmas.{lesser_clock, mutual_ancestors}
use Rattle.dag_graph.proofs.laws.ancestors_have_lesser_clocks.Goals as goal

pub returns-clause-lesser : goal.returns-clause-lesser
returns-clause-lesser c = λ nodes low high are rise. lesser_clock nodes are rise low high

pub returns-clause-mutual : goal.returns-clause-mutual
returns-clause-mutual c = λ nodes one other are rise. mutual_ancestors nodes are rise one other

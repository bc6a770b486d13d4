use Rattle.dag_graph.proofs.IndexLemmas.{IsIndexOf}
use Rattle.commit_tests.proofs.graphs.index_of.Given as goal

abbrev pub invariant-loop-place : goal.invariant-loop-place
invariant-loop-place l = IsIndexOf l.nodes l.places l.place

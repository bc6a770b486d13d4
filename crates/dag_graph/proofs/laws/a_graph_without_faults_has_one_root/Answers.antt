use Rattle.dag_graph.proofs.ClockLemmas.{all_lead}
use Rattle.dag_graph.proofs.laws.a_graph_without_faults_has_one_root.Goals as goal

pub returns : goal.returns
returns c = all_lead

use Rattle.dag_entity.proofs.FewerLemmas.{valid_alone, wrong_above}
use Rattle.entity_merge.proofs.laws.heads_of_a_valid_join_are_valid.Goals as goal

pub returns-clause-faults : goal.returns-clause-faults
returns-clause-faults g c = λ objects id authors heads top fault below. wrong_above g.K.OpKind.meaning objects id authors heads top below fault

pub returns-clause-valid : goal.returns-clause-valid
returns-clause-valid g c = λ objects id authors heads top below. valid_alone g.K.OpKind.meaning objects id authors heads top below

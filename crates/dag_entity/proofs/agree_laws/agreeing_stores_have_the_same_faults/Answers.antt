use Rattle.dag_entity.proofs.AgreeFaults.{entity_over, fault_over, valid_over}
use Rattle.dag_entity.proofs.agree_laws.agreeing_stores_have_the_same_faults.Goals as goal

pub returns-clause-faults : goal.returns-clause-faults
returns-clause-faults g c = λ one two id heads authors fault agree. fault_over one two heads agree g.K.OpKind.meaning id authors fault

pub returns-clause-valid : goal.returns-clause-valid
returns-clause-valid g c = λ one two id heads authors agree. valid_over g.K.OpKind.meaning one two heads agree id authors

pub returns-clause-entity : goal.returns-clause-entity
returns-clause-entity g c = λ one two id heads authors entity agree. entity_over g.K.OpKind.meaning one two heads agree id authors entity

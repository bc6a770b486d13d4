use Rattle.dag_entity.proofs.JoinLemmas.{forward_below, forward_entity, forward_operations, same_faults, same_faults_turned}
use Rattle.dag_entity.proofs.join_laws.a_head_below_another_adds_nothing.Goals as goal

pub returns-clause-below : goal.returns-clause-below
returns-clause-below g c = λ objects low high name there. forward_below objects low high there name

pub returns-clause-faults : goal.returns-clause-faults
returns-clause-faults g c = λ objects id authors low high fault there. same_faults g.K.OpKind.meaning objects id authors low high there fault

pub returns-clause-turned : goal.returns-clause-turned
returns-clause-turned g c = λ objects id authors low high fault there. same_faults_turned g.K.OpKind.meaning objects id authors low high there fault

pub returns-clause-entity : goal.returns-clause-entity
returns-clause-entity g c = λ objects id authors low high entity there was. forward_entity g.K.OpKind.meaning objects id low high authors entity was there

pub returns-clause-operations : goal.returns-clause-operations
returns-clause-operations g c = λ objects low high ops there. forward_operations g.K.OpKind.meaning objects low high there ops

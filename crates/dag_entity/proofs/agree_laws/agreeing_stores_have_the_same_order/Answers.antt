use Rattle.dag_entity.proofs.AgreeFaults.{all_over, operations_over}
use Rattle.dag_entity.proofs.agree_laws.agreeing_stores_have_the_same_order.Goals as goal

pub returns-clause-packs : goal.returns-clause-packs
returns-clause-packs g c = λ one two heads packs agree. all_over one two heads agree g.K.OpKind.meaning packs

pub returns-clause-operations : goal.returns-clause-operations
returns-clause-operations g c = λ one two heads ops agree. operations_over one two heads agree g.K.OpKind.meaning ops

use Rattle.dag_entity.proofs.LawOrders.{operation_commits, operation_list}
use Rattle.dag_entity.proofs.laws.entities_give_their_operations.Goals as goal

pub returns-clause-commits : goal.returns-clause-commits
returns-clause-commits g c = operation_commits g.K.OpKind.meaning

pub returns-clause-operations : goal.returns-clause-operations
returns-clause-operations g c = operation_list g.K.OpKind.meaning

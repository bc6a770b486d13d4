use Rattle.dag_entity.proofs.SinceLaws.{chain_adds, chain_follows}
use Rattle.dag_entity.proofs.since_laws.a_chain_adds_its_operations.Goals as goal

pub returns-clause-operations : goal.returns-clause-operations
returns-clause-operations g c = λ objects id. chain_adds g.K.OpKind.meaning objects id g.met.K.OpKind.laws

pub returns-clause-follow : goal.returns-clause-follow
returns-clause-follow g c = λ objects id. chain_follows g.K.OpKind.meaning objects id g.met.K.OpKind.laws

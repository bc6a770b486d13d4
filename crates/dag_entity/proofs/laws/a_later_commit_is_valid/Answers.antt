use Rattle.dag_entity.proofs.LawExtending.{in_order, is_extended, operations_last, still_valid}
use Rattle.dag_entity.proofs.laws.a_later_commit_is_valid.Goals as goal

pub returns-clause-valid : goal.returns-clause-valid
returns-clause-valid g c = still_valid g.K.OpKind.meaning g.met.K.OpKind.laws

pub returns-clause-packs : goal.returns-clause-packs
returns-clause-packs g c = in_order g.K.OpKind.meaning g.met.K.OpKind.laws

pub returns-clause-operations : goal.returns-clause-operations
returns-clause-operations g c = operations_last g.K.OpKind.meaning g.met.K.OpKind.laws

pub returns-clause-entity : goal.returns-clause-entity
returns-clause-entity g c = is_extended g.K.OpKind.meaning g.met.K.OpKind.laws

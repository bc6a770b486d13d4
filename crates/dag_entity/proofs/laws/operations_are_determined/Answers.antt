use Rattle.dag_entity.proofs.LawOrders.{one_list, one_packs}
use Rattle.dag_entity.proofs.laws.operations_are_determined.Goals as goal

pub returns-clause-packs : goal.returns-clause-packs
returns-clause-packs g c = one_packs g.K.OpKind.meaning

pub returns-clause-operations : goal.returns-clause-operations
returns-clause-operations g c = λ objects heads one two. one_list g.K.OpKind.meaning objects objects heads heads one two (λ placed. (λ is. is, λ is. is))

pub returns-clause-edges : goal.returns-clause-edges
returns-clause-edges g c = one_list g.K.OpKind.meaning

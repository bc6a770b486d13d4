use Rattle.dag_entity.proofs.LawFaults.{edit_not_less, edit_of_head}
use Rattle.dag_entity.proofs.laws.edit_clocks_of_entities_are_the_greatest.Goals as goal

pub returns-clause-one : goal.returns-clause-one
returns-clause-one g c = edit_of_head g.K.OpKind.meaning

pub returns-clause-most : goal.returns-clause-most
returns-clause-most g c = λ objects id heads authors entity head was. edit_not_less g.K.OpKind.meaning objects id heads authors entity was head

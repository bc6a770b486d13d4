use Rattle.dag_entity.proofs.LawTexts.{one_text}
use Rattle.dag_entity.proofs.LawValid.{operations_once}
use Rattle.dag_entity.proofs.laws.each_operation_stands_once.Goals as goal

pub returns-clause-texts : goal.returns-clause-texts
returns-clause-texts g c = λ objects id heads authors one two text valid. one_text g.K.OpKind.meaning g.met.K.OpKind.laws objects id heads authors valid one two text

pub returns-clause-once : goal.returns-clause-once
returns-clause-once g c = operations_once g.K.OpKind.meaning

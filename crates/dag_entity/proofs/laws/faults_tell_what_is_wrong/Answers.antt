use Rattle.dag_entity.proofs.LawFaults.{jump, order, roots}
use Rattle.dag_entity.proofs.laws.faults_tell_what_is_wrong.Goals as goal

pub returns-clause-root : goal.returns-clause-root
returns-clause-root g c = roots g.K.OpKind.meaning

pub returns-clause-order : goal.returns-clause-order
returns-clause-order g c = order g.K.OpKind.meaning

pub returns-clause-jump : goal.returns-clause-jump
returns-clause-jump g c = jump g.K.OpKind.meaning

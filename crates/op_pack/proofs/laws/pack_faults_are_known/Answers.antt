use Rattle.op_pack.proofs.KnownFaults.{known_text, known_operation, known_large}
use Rattle.op_pack.proofs.laws.pack_faults_are_known.Goals as goal

pub returns-clause-text : goal.returns-clause-text
returns-clause-text g c = known_text g.K.OpKind.meaning

pub returns-clause-operation : goal.returns-clause-operation
returns-clause-operation g c = known_operation g.K.OpKind.meaning

pub returns-clause-large : goal.returns-clause-large
returns-clause-large g c = known_large g.K.OpKind.meaning

use Rattle.op_pack.proofs.RuleLaws.{pack_keeps, pack_stands}
use Rattle.op_pack.proofs.laws.operations_keep_rules.Goals as goal

pub returns-clause-rules : goal.returns-clause-rules
returns-clause-rules g c = pack_keeps g.K.OpKind.meaning g.met.K.OpKind.laws

pub returns-clause-places : goal.returns-clause-places
returns-clause-places g c = pack_stands g.K.OpKind.meaning g.met.K.OpKind.laws

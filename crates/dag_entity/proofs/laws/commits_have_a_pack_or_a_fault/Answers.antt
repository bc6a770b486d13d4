use Rattle.dag_entity.proofs.LawValid.{below_not_both, below_pack_or_fault}
use Rattle.dag_entity.proofs.laws.commits_have_a_pack_or_a_fault.Goals as goal

pub returns-clause-either : goal.returns-clause-either
returns-clause-either g c = below_pack_or_fault g.K.OpKind.meaning g.met.K.OpKind.laws

pub returns-clause-never_both : goal.returns-clause-never_both
returns-clause-never_both g c = below_not_both g.K.OpKind.meaning g.met.K.OpKind.laws

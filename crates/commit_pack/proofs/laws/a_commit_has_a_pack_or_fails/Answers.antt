use Rattle.commit_pack.proofs.LawLemmas.{not_both, pack_or_fault}
use Rattle.commit_pack.proofs.laws.a_commit_has_a_pack_or_fails.Goals as goal

pub returns-clause-either : goal.returns-clause-either
returns-clause-either g c = λ objects tree. pack_or_fault g.K.OpKind.meaning objects tree g.met.K.OpKind.laws

pub returns-clause-never_both : goal.returns-clause-never_both
returns-clause-never_both g c = λ objects tree. not_both g.K.OpKind.meaning objects tree g.met.K.OpKind.laws

use Rattle.dag_entity.proofs.LawFirst.{first_valid}
use Rattle.dag_entity.proofs.laws.a_first_commit_is_valid.Goals as goal

pub returns : goal.returns
returns g c = first_valid g.K.OpKind.meaning g.met.K.OpKind.laws

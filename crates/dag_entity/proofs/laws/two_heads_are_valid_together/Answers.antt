use Rattle.dag_entity.proofs.LawTogether.{valid_together}
use Rattle.dag_entity.proofs.laws.two_heads_are_valid_together.Goals as goal

pub returns : goal.returns
returns g c = λ objects id authors one two names first second. valid_together g.K.OpKind.meaning objects id authors one two first second names

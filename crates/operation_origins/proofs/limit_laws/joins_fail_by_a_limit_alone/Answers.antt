use Rattle.operation_origins.proofs.JoinLemmas.{limit_alone}
use Rattle.operation_origins.proofs.limit_laws.joins_fail_by_a_limit_alone.Goals as goal

pub returns : goal.returns
returns g c = λ objects id authors one two fault first second once holds.
    limit_alone g.K.OpKind.meaning g.met.K.OpKind.laws objects id authors one two first second once fault holds

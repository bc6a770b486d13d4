use Rattle.dag_entity.proofs.AgreeGrowth.{other_fault}
use Rattle.dag_entity.proofs.agree_laws.other_faults_do_not_depend_on_the_authors.Goals as goal

pub returns : goal.returns
returns g c = λ objects id heads authors others fault other. other_fault g.K.OpKind.meaning id heads objects authors others fault other

use Rattle.dag_entity.proofs.AgreeGrowth.{fewer_authors, more_authors, more_authors_entity}
use Rattle.dag_entity.proofs.agree_laws.more_authors_make_nothing_wrong.Goals as goal

pub returns-clause-faults : goal.returns-clause-faults
returns-clause-faults g c = λ objects id heads authors others fault all. fewer_authors g.K.OpKind.meaning id heads objects authors others all fault

pub returns-clause-valid : goal.returns-clause-valid
returns-clause-valid g c = λ objects id heads authors others all. more_authors g.K.OpKind.meaning id heads objects authors others all

pub returns-clause-entity : goal.returns-clause-entity
returns-clause-entity g c = λ objects id heads authors others entity all. more_authors_entity g.K.OpKind.meaning id heads objects authors others all entity

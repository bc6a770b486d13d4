use Rattle.commit_walk.specs.Below.{head, parent}
use Rattle.commit_walk.proofs.DistinctLemmas.{Contains-first}
use Rattle.std.proofs.Common.{◌∷◌, []}
use Rattle.dag_entity.proofs.FewerLemmas.{valid_alone, wrong_above, wrong_together}
use Rattle.dag_entity.proofs.join_laws.faults_go_up.Goals as goal

pub returns-clause-one : goal.returns-clause-one
returns-clause-one g c = λ objects id authors heads low fault there. wrong_above g.K.OpKind.meaning objects id authors heads low there fault

pub returns-clause-heads : goal.returns-clause-heads
returns-clause-heads g c = λ objects id authors heads others fault apart up. wrong_together g.K.OpKind.meaning objects id authors others heads apart up fault

pub returns-clause-valid : goal.returns-clause-valid
returns-clause-valid g c = λ objects id authors heads low there valid. valid_alone g.K.OpKind.meaning objects id authors heads low there valid

pub returns-clause-parents : goal.returns-clause-parents
returns-clause-parents g c = λ objects id authors high low leads valid. valid_alone g.K.OpKind.meaning objects id authors (high ∷ []) low (parent (head (Contains-first high [])) leads) valid

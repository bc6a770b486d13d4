use Rattle.dag_entity.proofs.JoinLemmas.{joined_entity, time_rises}
use Rattle.dag_entity.proofs.UnionLemmas.{below_joined, operations_joined, union_joined}
use Rattle.dag_entity.proofs.join_laws.a_commit_over_both_heads_is_valid.Goals as goal

pub returns-clause-entity : goal.returns-clause-entity
returns-clause-entity g c = λ before after id one two author authors clock now edit entity. joined_entity g.K.OpKind.meaning g.met.K.OpKind.laws before after id one two author authors clock now edit entity

pub returns-clause-clocks : goal.returns-clause-clocks
returns-clause-clocks g c = λ objects one two clock edit time. time_rises objects one two clock edit time

pub returns-clause-below : goal.returns-clause-below
returns-clause-below g c = λ before after one two name author edit now agree node. below_joined g.K.OpKind.meaning before after one two agree author edit now node name

pub returns-clause-commits : goal.returns-clause-commits
returns-clause-commits g c = λ before after one two author edit now placed agree node. union_joined g.K.OpKind.meaning before after one two agree author edit now node placed

pub returns-clause-operations : goal.returns-clause-operations
returns-clause-operations g c = λ before after one two author edit now ops agree node. operations_joined g.K.OpKind.meaning before after one two agree author edit now node ops

use Rattle.dag_entity.proofs.JoinLemmas.{forward_entity, joined_entity}
use Rattle.entity_merge.proofs.laws.joined_heads_are_valid.Goals as goal

pub returns-clause-forward : goal.returns-clause-forward
returns-clause-forward g c = λ objects id local remote authors entity. forward_entity g.K.OpKind.meaning objects id local remote authors entity

pub returns-clause-joined : goal.returns-clause-joined
returns-clause-joined g c = λ before after id local remote author authors clock now edit entity.
    joined_entity g.K.OpKind.meaning g.met.K.OpKind.laws before after id local remote author authors clock now edit entity

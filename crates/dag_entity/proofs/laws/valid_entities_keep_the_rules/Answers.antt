use Rattle.dag_entity.proofs.LawRules.{clock, follow, known, merges, near, room}
use Rattle.dag_entity.proofs.laws.valid_entities_keep_the_rules.Goals as goal

pub returns-clause-near : goal.returns-clause-near
returns-clause-near g c = near g.K.OpKind.meaning

pub returns-clause-merges : goal.returns-clause-merges
returns-clause-merges g c = merges g.K.OpKind.meaning

pub returns-clause-follow : goal.returns-clause-follow
returns-clause-follow g c = follow g.K.OpKind.meaning

pub returns-clause-known : goal.returns-clause-known
returns-clause-known g c = known g.K.OpKind.meaning

pub returns-clause-room : goal.returns-clause-room
returns-clause-room g c = room g.K.OpKind.meaning

pub returns-clause-clock : goal.returns-clause-clock
returns-clause-clock g c = clock g.K.OpKind.meaning

use Rattle.dag_entity.proofs.SinceLaws.{chain_is_below, chain_is_sound}
use Rattle.dag_entity.proofs.since_laws.a_chain_goes_down.Goals as goal

pub returns-clause-below : goal.returns-clause-below
returns-clause-below g c = chain_is_below g.K.OpKind.meaning

pub returns-clause-sound : goal.returns-clause-sound
returns-clause-sound g c = chain_is_sound g.K.OpKind.meaning

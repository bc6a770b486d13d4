use Rattle.exchange_runs.proofs.PlayedAmongLemmas.{events_take}
use Rattle.world_agreements.proofs.laws.events_take_from_each_other.Goals as goal

pub returns : goal.returns
returns c = λ folders events ends old new most within played. events_take folders most events ends old new within played

use Rattle.exchange_runs.proofs.WorldLemmas.{world_may}
use Rattle.exchange_runs.proofs.laws.played_worlds_may_exchange.Goals as goal

pub returns : goal.returns
returns c = world_may

use Rattle.dag_entity.proofs.JoinLemmas.{time_rises}
use Rattle.entity_merge.proofs.laws.clocks_of_joins_rise.Goals as goal

pub returns : goal.returns
returns c = time_rises

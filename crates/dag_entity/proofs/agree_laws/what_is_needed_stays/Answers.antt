use Rattle.dag_entity.proofs.AgreeGrowth.{needed_stays}
use Rattle.dag_entity.proofs.agree_laws.what_is_needed_stays.Goals as goal

pub returns : goal.returns
returns c = needed_stays

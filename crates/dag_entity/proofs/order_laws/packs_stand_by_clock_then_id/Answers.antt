use Rattle.dag_entity.proofs.RankLemmas.{all_stand_before}
use Rattle.dag_entity.proofs.order_laws.packs_stand_by_clock_then_id.Goals as goal

pub returns : goal.returns
returns g c = λ objects heads packs are. all_stand_before packs are.rise

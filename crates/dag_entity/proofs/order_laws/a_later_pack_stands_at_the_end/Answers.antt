use Rattle.dag_entity.proofs.RankLemmas.{later_last}
use Rattle.dag_entity.proofs.order_laws.a_later_pack_stands_at_the_end.Goals as goal

pub returns : goal.returns
returns g c = λ packs placed rise above. later_last packs placed rise above

use Rattle.dag_entity.proofs.RankLemmas.{parents_first}
use Rattle.dag_entity.proofs.order_laws.parents_stand_before_children.Goals as goal

pub returns : goal.returns
returns g c = λ objects heads packs are rise. parents_first g.K.OpKind.meaning objects heads packs are rise

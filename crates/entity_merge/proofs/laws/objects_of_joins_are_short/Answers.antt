use Rattle.dag_entity.proofs.ShortLemmas.{merge_short}
use Rattle.entity_merge.proofs.laws.objects_of_joins_are_short.Goals as goal

pub returns : goal.returns
returns g c = merge_short g.K.OpKind.meaning

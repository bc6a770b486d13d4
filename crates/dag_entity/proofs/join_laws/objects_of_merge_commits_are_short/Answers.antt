use Rattle.dag_entity.proofs.ShortLemmas.{merge_short}
use Rattle.dag_entity.proofs.join_laws.objects_of_merge_commits_are_short.Goals as goal

pub returns : goal.returns
returns g c = merge_short g.K.OpKind.meaning

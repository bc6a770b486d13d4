use Rattle.dag_entity.proofs.AgreeLemmas.{pack_same}
use Rattle.dag_entity.proofs.agree_laws.agreeing_stores_have_the_same_packs.Goals as goal

pub returns : goal.returns
returns g c = λ one two heads name agree. pack_same one two heads agree g.K.OpKind.meaning name

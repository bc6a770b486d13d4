use Rattle.dag_entity.proofs.OrderLemmas.{one_rise}
use Rattle.dag_entity.proofs.order_laws.orders_of_packs_are_determined.Goals as goal

pub returns : goal.returns
returns g c = λ one two first second same. one_rise one two first second same

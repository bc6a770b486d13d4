use Rattle.dag_entity.proofs.LawRules.{apart_turned}
use Rattle.dag_entity.proofs.laws.heads_are_apart_in_either_order.Goals as goal

pub returns : goal.returns
returns c = apart_turned

use Rattle.dag_entity.proofs.LawValid.{begins_once, clocks_rise}
use Rattle.dag_entity.proofs.laws.valid_entities_are_well_formed.Goals as goal

pub returns-clause-root : goal.returns-clause-root
returns-clause-root g c = begins_once g.K.OpKind.meaning

pub returns-clause-clocks : goal.returns-clause-clocks
returns-clause-clocks g c = λ objects id heads authors entity high low was. clocks_rise g.K.OpKind.meaning objects id heads authors entity was high low

use Rattle.dag_entity.proofs.AgreeLemmas.{agree_back, needed_over}
use Rattle.dag_entity.proofs.agree_laws.stores_agree_both_ways.Goals as goal

pub returns-clause-both : goal.returns-clause-both
returns-clause-both c = agree_back

pub returns-clause-needed : goal.returns-clause-needed
returns-clause-needed c = λ one two heads name agree. needed_over one two heads agree name

use Rattle.repo_state.proofs.HeadIdLemmas.{heads_of_ids, ids_of_heads}
use Rattle.repo_state.proofs.laws.ids_are_those_of_the_heads.Goals as goal

pub returns-clause-same : goal.returns-clause-same
returns-clause-same c = λ files folder of ids heads are have. ids_of_heads files folder of ids are heads have

pub returns-clause-reads : goal.returns-clause-reads
returns-clause-reads c = λ files folder of ids are. ((λ heads. heads.1.none_bad), heads_of_ids files folder of ids are)

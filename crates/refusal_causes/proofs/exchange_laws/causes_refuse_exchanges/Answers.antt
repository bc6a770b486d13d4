use Rattle.refusal_causes.proofs.RunCauseLemmas.{merge_told, peer_told, pull_told}
use Rattle.refusal_causes.proofs.exchange_laws.causes_refuse_exchanges.Goals as goal

pub returns-clause-exchange : goal.returns-clause-exchange
returns-clause-exchange c = λ call old new before after answer request refusal tells asks cause is. peer_told call old new before after tells answer is request refusal asks cause

pub returns-clause-merge : goal.returns-clause-merge
returns-clause-merge c = λ call old new end before after answer request refusal tells asks cause is. merge_told call old new before after tells answer is request end refusal asks cause

pub returns-clause-pull : goal.returns-clause-pull
returns-clause-pull c = λ call old new before after answer pair remote tells asks free is. pull_told call old new before after tells answer is pair remote asks free

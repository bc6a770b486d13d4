use Rattle.refusal_causes.proofs.RunCauseLemmas.{merge_has_cause, peer_has_cause}
use Rattle.refusal_causes.proofs.exchange_laws.refused_exchanges_have_their_cause.Goals as goal

pub returns-clause-exchange : goal.returns-clause-exchange
returns-clause-exchange c = λ call old new before after request refusal tells asks is. peer_has_cause call old new before after tells refusal is request asks

pub returns-clause-merge : goal.returns-clause-merge
returns-clause-merge c = λ call old new before after request refusal tells asks is. merge_has_cause call old new before after tells refusal is request asks

use Rattle.refusal_causes.proofs.RunCauseLemmas.{fetch_had, push_had}
use Rattle.refusal_causes.proofs.exchange_laws.refused_exchanges_had_the_turns_before.Goals as goal

pub returns-clause-fetch : goal.returns-clause-fetch
returns-clause-fetch c = λ call old new before after pair remote refusal tells asks both is. fetch_had call old new before after tells refusal is pair both remote asks

pub returns-clause-push : goal.returns-clause-push
returns-clause-push c = λ call old new before after pair refusal tells asks both is. push_had call old new before after tells refusal is pair both asks

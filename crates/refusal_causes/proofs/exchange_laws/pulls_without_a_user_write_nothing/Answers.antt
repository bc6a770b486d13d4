use Rattle.refusal_causes.proofs.RunCauseLemmas.{pull_writes_nothing}
use Rattle.refusal_causes.proofs.exchange_laws.pulls_without_a_user_write_nothing.Goals as goal

pub returns : goal.returns
returns c = λ call old new before after answer pair remote refusal tells asks cause is. pull_writes_nothing call old new before after tells answer is pair remote refusal asks cause

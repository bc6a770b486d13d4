use Rattle.refusal_causes.proofs.ListCauseLemmas.{list_cause, list_refused, list_unread}
use Rattle.refusal_causes.proofs.list_laws.lists_are_refused_for_damage.Goals as goal

pub returns-clause-cause : goal.returns-clause-cause
returns-clause-cause c = λ call old new before after request refusal tells asks is. list_cause call old new before after request tells asks refusal is

pub returns-clause-packed : goal.returns-clause-packed
returns-clause-packed c = λ call old new before after answer request refusal tells asks unread is. list_unread call old new before after request tells asks answer refusal unread is

pub returns-clause-damage : goal.returns-clause-damage
returns-clause-damage c = λ call old new before after answer request tells asks reads bars is. list_refused call old new before after request tells asks answer reads bars is

use Rattle.refusal_causes.proofs.EditLemmas.{damaged_told, missed_told, unchanged_told}
use Rattle.refusal_causes.proofs.edit_laws.edits_are_refused_for_their_bug.Goals as goal

pub returns-clause-missed : goal.returns-clause-missed
returns-clause-missed c = λ call old new before after answer folder edit word user tells asks reads is_user why finds is. missed_told call old new before after answer folder edit word user tells asks reads is_user why finds is

pub returns-clause-damaged : goal.returns-clause-damaged
returns-clause-damaged c = λ call old new before after answer folder edit word user tells asks reads is_user bug finds fault is. damaged_told call old new before after answer folder edit word user tells asks reads is_user bug finds fault is

pub returns-clause-unchanged : goal.returns-clause-unchanged
returns-clause-unchanged c = λ call old new before after answer folder edit word user tells asks reads is_user bug why same is. unchanged_told call old new before after answer folder edit word user tells asks reads is_user bug why same is

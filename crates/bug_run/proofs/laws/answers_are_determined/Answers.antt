use Rattle.bug_run.proofs.AnswerLemmas.{done_not_refused, one_refusal, one_told}
use Rattle.bug_run.proofs.laws.answers_are_determined.Goals as goal

pub returns-clause-told : goal.returns-clause-told
returns-clause-told c = one_told

pub returns-clause-refused : goal.returns-clause-refused
returns-clause-refused c = done_not_refused

pub returns-clause-one_refusal : goal.returns-clause-one_refusal
returns-clause-one_refusal c = one_refusal

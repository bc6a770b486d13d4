use Rattle.bug_run.proofs.WordLemmas.{refusal_only, refusal_told, usage_only, usage_told}
use Rattle.bug_run.proofs.laws.words_decide_first.Goals as goal

pub returns-clause-usage : goal.returns-clause-usage
returns-clause-usage c = usage_told

pub returns-clause-only_usage : goal.returns-clause-only_usage
returns-clause-only_usage c = usage_only

pub returns-clause-refused : goal.returns-clause-refused
returns-clause-refused c = refusal_told

pub returns-clause-only_refused : goal.returns-clause-only_refused
returns-clause-only_refused c = refusal_only

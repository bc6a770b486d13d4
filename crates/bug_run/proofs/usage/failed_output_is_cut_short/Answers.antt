use Rattle.bug_run.proofs.UsageLemmas.{command_cut, done_whole, refusal_cut, usage_cut}
use Rattle.bug_run.proofs.usage.failed_output_is_cut_short.Goals as goal

pub returns-clause-usage : goal.returns-clause-usage
returns-clause-usage c = usage_cut

pub returns-clause-refusal : goal.returns-clause-refusal
returns-clause-refusal c = refusal_cut

pub returns-clause-command : goal.returns-clause-command
returns-clause-command c = command_cut

pub returns-clause-done : goal.returns-clause-done
returns-clause-done c = done_whole

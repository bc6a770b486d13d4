use Rattle.bug_run.proofs.LineLemmas.{lines_cut, merge_lines_cut}
use Rattle.bug_run.proofs.exchange_laws.failed_lines_are_cut_short.Goals as goal

pub returns-clause-exchange : goal.returns-clause-exchange
returns-clause-exchange c = lines_cut

pub returns-clause-merge : goal.returns-clause-merge
returns-clause-merge c = merge_lines_cut

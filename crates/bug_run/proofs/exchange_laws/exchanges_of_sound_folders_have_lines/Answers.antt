use Rattle.bug_run.proofs.LineLemmas.{exchange_has_lines, merge_has_lines}
use Rattle.bug_run.proofs.exchange_laws.exchanges_of_sound_folders_have_lines.Goals as goal

pub returns-clause-exchange : goal.returns-clause-exchange
returns-clause-exchange c = exchange_has_lines

pub returns-clause-merge : goal.returns-clause-merge
returns-clause-merge c = merge_has_lines

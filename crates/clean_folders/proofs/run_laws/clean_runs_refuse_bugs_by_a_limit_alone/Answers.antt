use Rattle.clean_folders.proofs.RunCleanLemmas.{merge_clean, pull_clean}
use Rattle.clean_folders.proofs.run_laws.clean_runs_refuse_bugs_by_a_limit_alone.Goals as goal

pub returns-clause-merge : goal.returns-clause-merge
returns-clause-merge c = λ folders old new request apart runs seeds none run one_text asks is prints has known.
    merge_clean folders apart old runs seeds none new run prints has request one_text asks is known

pub returns-clause-pull : goal.returns-clause-pull
returns-clause-pull c = λ folders old new pair remote apart runs seeds none run one_text asks own peer prints has.
    pull_clean folders apart old runs seeds none new run prints has pair remote asks own peer one_text

use Rattle.clean_folders.proofs.MergeLemmas.{merge_refuses, pull_refuses}
use Rattle.clean_folders.proofs.folder_laws.clean_folders_refuse_no_bug_but_for_a_limit.Goals as goal

pub returns-clause-merge : goal.returns-clause-merge
returns-clause-merge c = λ folders old new request clean run one_text asks is prints has. merge_refuses folders old clean new run prints has request one_text asks is

pub returns-clause-pull : goal.returns-clause-pull
returns-clause-pull c = λ folders old new pair remote clean run one_text asks own peer prints has.
    pull_refuses folders old clean new run prints has pair remote asks own peer one_text

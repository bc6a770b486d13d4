use Rattle.clean_folders.proofs.PullLemmas.{pull_without_limit}
use Rattle.clean_folders.proofs.folder_laws.clean_pulls_without_a_limit_refuse_no_bug.Goals as goal

pub returns : goal.returns
returns c = λ folders old new pair remote clean run one_text asks own peer prints has.
    pull_without_limit folders old clean new run prints has pair remote asks own peer one_text

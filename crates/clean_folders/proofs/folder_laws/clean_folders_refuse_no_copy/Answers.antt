use Rattle.clean_folders.proofs.FetchLemmas.{fetch_clean, pull_fetch_clean, push_clean}
use Rattle.clean_folders.proofs.folder_laws.clean_folders_refuse_no_copy.Goals as goal

pub returns-clause-fetch : goal.returns-clause-fetch
returns-clause-fetch c = λ folders old new pair remote apart runs run one_text asks own peer prints has.
    fetch_clean folders apart old runs new run one_text prints has pair own peer remote asks

pub returns-clause-pull : goal.returns-clause-pull
returns-clause-pull c = λ folders old new pair remote apart runs run one_text asks own peer prints has.
    pull_fetch_clean folders apart old runs new run one_text prints has pair own peer remote asks

pub returns-clause-push : goal.returns-clause-push
returns-clause-push c = λ folders old new pair apart runs run one_text asks own peer prints has.
    push_clean folders apart old runs new run one_text prints has pair own peer asks

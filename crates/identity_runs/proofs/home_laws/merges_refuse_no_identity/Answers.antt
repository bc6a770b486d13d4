use Rattle.identity_runs.proofs.MergeLemmas.{merge_refuses_none, pull_refuses_none}
use Rattle.identity_runs.proofs.home_laws.merges_refuse_no_identity.Goals as goal

pub returns-clause-merge : goal.returns-clause-merge
returns-clause-merge c = λ folders old new request apart runs once at_home run one_text asks is prints has.
    merge_refuses_none folders apart old runs once at_home new run one_text prints has request asks is

pub returns-clause-pull : goal.returns-clause-pull
returns-clause-pull c = λ folders old new pair remote apart runs once at_home run one_text asks own peer prints has.
    pull_refuses_none folders apart old runs once at_home new run one_text prints has pair remote asks own peer

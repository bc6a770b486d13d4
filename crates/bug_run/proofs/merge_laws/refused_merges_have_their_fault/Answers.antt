use Rattle.bug_run.proofs.MergeLawLemmas.{merge_refused, pull_refused}
use Rattle.bug_run.proofs.merge_laws.refused_merges_have_their_fault.Goals as goal

pub returns-clause-merge : goal.returns-clause-merge
returns-clause-merge c = merge_refused

pub returns-clause-pull : goal.returns-clause-pull
returns-clause-pull c = pull_refused

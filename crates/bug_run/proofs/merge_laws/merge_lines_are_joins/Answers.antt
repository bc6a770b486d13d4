use Rattle.bug_run.proofs.MergeLawLemmas.{merge_joins, pull_joins}
use Rattle.bug_run.proofs.merge_laws.merge_lines_are_joins.Goals as goal

pub returns-clause-merge : goal.returns-clause-merge
returns-clause-merge c = merge_joins

pub returns-clause-pull : goal.returns-clause-pull
returns-clause-pull c = pull_joins

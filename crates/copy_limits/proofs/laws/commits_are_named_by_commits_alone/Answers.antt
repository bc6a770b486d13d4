use Rattle.copy_limits.proofs.NamedLemmas.{closure_below, next_parent}
use Rattle.copy_limits.proofs.laws.commits_are_named_by_commits_alone.Goals as goal

pub returns-clause-parents : goal.returns-clause-parents
returns-clause-parents c = next_parent

pub returns-clause-below : goal.returns-clause-below
returns-clause-below c = closure_below

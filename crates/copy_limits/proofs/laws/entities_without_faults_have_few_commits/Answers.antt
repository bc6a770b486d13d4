use Rattle.copy_limits.proofs.RingLemmas.{bug_few, identity_few}
use Rattle.copy_limits.proofs.laws.entities_without_faults_have_few_commits.Goals as goal

pub returns-clause-bug : goal.returns-clause-bug
returns-clause-bug c = bug_few

pub returns-clause-identity : goal.returns-clause-identity
returns-clause-identity c = identity_few

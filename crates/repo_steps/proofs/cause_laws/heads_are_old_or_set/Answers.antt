use Rattle.repo_steps.proofs.HeadMoveLemmas.{bug_old_or_set, identity_old_or_set}
use Rattle.repo_steps.proofs.cause_laws.heads_are_old_or_set.Goals as goal

pub returns-clause-identities : goal.returns-clause-identities
returns-clause-identities c = identity_old_or_set

pub returns-clause-bugs : goal.returns-clause-bugs
returns-clause-bugs c = bug_old_or_set

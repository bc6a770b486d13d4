use Rattle.copy_limits.proofs.RingLemmas.{bug_no_ring, identity_no_ring}
use Rattle.copy_limits.proofs.laws.entities_without_faults_have_no_ring.Goals as goal

pub returns-clause-bug : goal.returns-clause-bug
returns-clause-bug c = bug_no_ring

pub returns-clause-identity : goal.returns-clause-identity
returns-clause-identity c = identity_no_ring

use Rattle.remote_copy.proofs.SpareLemmas.{apart, head_alone, not_followed}
use Rattle.remote_copy.proofs.read_laws.commits_that_are_left_are_not_read.Goals as goal

pub returns-clause-each : goal.returns-clause-each
returns-clause-each c = apart

pub returns-clause-left : goal.returns-clause-left
returns-clause-left c = not_followed

pub returns-clause-head : goal.returns-clause-head
returns-clause-head c = head_alone

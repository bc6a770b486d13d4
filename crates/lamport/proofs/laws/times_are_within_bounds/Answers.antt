use Rattle.lamport.proofs.TimeLemmas.{time_of-only, time_of-within}
use Rattle.lamport.proofs.laws.times_are_within_bounds.Goals as goal

pub returns-clause-each : goal.returns-clause-each
returns-clause-each c = time_of-within

pub returns-clause-only : goal.returns-clause-only
returns-clause-only c = time_of-only

use Rattle.lamport.proofs.ClockLemmas.{clock_of-decimal, clock_of-line}
use Rattle.lamport.proofs.laws.clocks_read_back.Goals as goal

pub returns-clause-plain : goal.returns-clause-plain
returns-clause-plain c = clock_of-decimal

pub returns-clause-line : goal.returns-clause-line
returns-clause-line c = clock_of-line

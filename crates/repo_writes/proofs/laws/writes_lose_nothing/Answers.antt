use Rattle.repo_writes.proofs.LossLemmas.{bug-below, clock-rises, head-below}
use Rattle.repo_writes.proofs.SoundLemmas.{write-grew}
use Rattle.repo_writes.proofs.laws.writes_lose_nothing.Goals as goal

pub returns-clause-objects : goal.returns-clause-objects
returns-clause-objects c = write-grew

pub returns-clause-heads : goal.returns-clause-heads
returns-clause-heads c = head-below

pub returns-clause-bugs : goal.returns-clause-bugs
returns-clause-bugs c = bug-below

pub returns-clause-clocks : goal.returns-clause-clocks
returns-clause-clocks c = clock-rises

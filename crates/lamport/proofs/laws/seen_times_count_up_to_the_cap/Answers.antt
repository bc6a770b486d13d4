use Rattle.std.proofs.Common.{arith}
use Rattle.lamport.proofs.laws.seen_times_count_up_to_the_cap.Goals as goal

pub returns-clause-below : goal.returns-clause-below
returns-clause-below c = λ clock edit le. omega arith

pub returns-clause-above : goal.returns-clause-above
returns-clause-above c = λ clock edit le. omega arith

use Rattle.commit_walk.proofs.BelowLemmas.{IsBelow-stays, AreBelow-stays, IsBelow-before}
use Rattle.commit_walk.proofs.laws.what_lies_below_stays.Goals as goal

pub returns-clause-below : goal.returns-clause-below
returns-clause-below c = λ old new heads name grew below. IsBelow-stays old new grew heads name below

pub returns-clause-whole : goal.returns-clause-whole
returns-clause-whole c = λ old new heads walk grew whole. AreBelow-stays old new grew heads walk whole

pub returns-clause-no_more : goal.returns-clause-no_more
returns-clause-no_more c = λ old new heads walk name grew whole below. IsBelow-before old new grew heads walk whole name below

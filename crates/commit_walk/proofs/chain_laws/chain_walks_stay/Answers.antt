use Rattle.commit_walk.proofs.ChainStayLemmas.{MeetsMerge_stays, Meets_stays, Walked_stays}
use Rattle.commit_walk.proofs.chain_laws.chain_walks_stay.Goals as goal

pub returns-clause-whole : goal.returns-clause-whole
returns-clause-whole c = λ old new head walk grew. Walked_stays old new grew head walk

pub returns-clause-met : goal.returns-clause-met
returns-clause-met c = λ old new head name grew. Meets_stays old new grew head name

pub returns-clause-merge : goal.returns-clause-merge
returns-clause-merge c = λ old new head name grew. MeetsMerge_stays old new grew head name

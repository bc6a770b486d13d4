use Rattle.commit_walk.proofs.ChainPassLemmas.{one_merge, one_walk}
use Rattle.commit_walk.proofs.chain_laws.chain_walks_are_determined.Goals as goal

pub returns-clause-walks : goal.returns-clause-walks
returns-clause-walks c = one_walk

pub returns-clause-merges : goal.returns-clause-merges
returns-clause-merges c = one_merge

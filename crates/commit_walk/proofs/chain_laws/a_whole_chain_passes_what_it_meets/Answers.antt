use Rattle.commit_walk.proofs.ChainPassLemmas.{met_at, walk_passes}
use Rattle.commit_walk.proofs.chain_laws.a_whole_chain_passes_what_it_meets.Goals as goal

pub returns-clause-passes : goal.returns-clause-passes
returns-clause-passes c = walk_passes

pub returns-clause-met : goal.returns-clause-met
returns-clause-met c = met_at

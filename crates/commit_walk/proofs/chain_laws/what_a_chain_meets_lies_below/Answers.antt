use Rattle.commit_walk.proofs.ChainLemmas.{chain_below}
use Rattle.commit_walk.proofs.chain_laws.what_a_chain_meets_lies_below.Goals as goal

pub returns : goal.returns
returns c = λ objects head name meets. chain_below objects head meets.above name meets.chain

use Rattle.commit_walk.proofs.SearchLemmas.{few_reads, few_searched}
use Rattle.commit_walk.proofs.laws.walks_read_each_commit_at_most_once.Goals as goal

pub returns-clause-walk : goal.returns-clause-walk
returns-clause-walk c = few_reads

pub returns-clause-search : goal.returns-clause-search
returns-clause-search c = few_searched

use Rattle.commit_walk.proofs.ChainPassLemmas.{no_fault-walked, no_merge-walked}
use Rattle.commit_walk.proofs.chain_laws.a_whole_chain_has_no_fault.Goals as goal

pub returns-clause-merge : goal.returns-clause-merge
returns-clause-merge c = λ objects head name walk walked. no_merge-walked objects head walk walked name

pub returns-clause-fault : goal.returns-clause-fault
returns-clause-fault c = no_fault-walked

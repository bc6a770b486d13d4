use Rattle.identity.proofs.AgreeLemmas.{chain_too, fault_over, meets_back, meets_over, same_back, shows_over}
use Rattle.identity.proofs.agree_laws.agreeing_stores_have_the_same_chain.Goals as goal

pub returns-clause-both : goal.returns-clause-both
returns-clause-both c = λ one two head agree. same_back one two head agree

pub returns-clause-met : goal.returns-clause-met
returns-clause-met c = λ one two head name agree. (meets_over one two head agree name, meets_back one two head agree name)

pub returns-clause-faults : goal.returns-clause-faults
returns-clause-faults c = λ one two id head fault agree. (fault_over one two head agree id fault, fault_over two one head (same_back one two head agree) id fault)

pub returns-clause-chain : goal.returns-clause-chain
returns-clause-chain c = λ one two id head agree chain. chain_too one two head agree id chain

pub returns-clause-person : goal.returns-clause-person
returns-clause-person c = λ one two id head person agree. (shows_over one two head agree id person, shows_over two one head (same_back one two head agree) id person)

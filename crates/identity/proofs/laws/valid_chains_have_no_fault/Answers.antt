use Rattle.identity.proofs.NoFaultLemmas.{no_fault, no_fault_at}
use Rattle.identity.proofs.laws.valid_chains_have_no_fault.Goals as goal

pub returns-clause-chain : goal.returns-clause-chain
returns-clause-chain c = λ objects id head f. no_fault objects id head f

pub returns-clause-last : goal.returns-clause-last
returns-clause-last c = λ objects head version f. no_fault_at objects head version f

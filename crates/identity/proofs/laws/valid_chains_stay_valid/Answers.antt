use Rattle.identity.proofs.ExtendLemmas.{chain_stays, person_stays}
use Rattle.identity.proofs.laws.valid_chains_stay_valid.Goals as goal

pub returns-clause-chain : goal.returns-clause-chain
returns-clause-chain c = chain_stays

pub returns-clause-person : goal.returns-clause-person
returns-clause-person c = person_stays

use Rattle.identity.proofs.NoFaultLemmas.{one_count, one_id, one_person}
use Rattle.identity.proofs.laws.chains_are_determined.Goals as goal

pub returns-clause-persons : goal.returns-clause-persons
returns-clause-persons c = one_person

pub returns-clause-ids : goal.returns-clause-ids
returns-clause-ids c = one_id

pub returns-clause-counts : goal.returns-clause-counts
returns-clause-counts c = one_count

use Rattle.ref_store.proofs.ListLemmas.{ids_differ}
use Rattle.ref_store.proofs.laws.id_listings_have_each_ref_file.Goals as goal

pub returns-clause-every : goal.returns-clause-every
returns-clause-every c = λ files folder dir ids id is valid. (λ stands. (is.members id).1 (valid, stands), λ has. ((is.members id).0 has).1)

pub returns-clause-valid : goal.returns-clause-valid
returns-clause-valid c = λ files folder dir ids id is has. ((is.members id).0 has).0

pub returns-clause-once : goal.returns-clause-once
returns-clause-once c = λ files folder dir ids is. ids_differ ids is.rising

pub returns-clause-ascending : goal.returns-clause-ascending
returns-clause-ascending c = λ files folder dir ids is. is.rising

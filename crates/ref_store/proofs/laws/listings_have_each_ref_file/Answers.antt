use Rattle.ref_store.proofs.ListLemmas.{each_ref, head_found, bad_found}
use Rattle.ref_store.proofs.laws.listings_have_each_ref_file.Goals as goal

pub returns-clause-every : goal.returns-clause-every
returns-clause-every c = each_ref

pub returns-clause-head : goal.returns-clause-head
returns-clause-head c = λ files folder dir entries entry name is has. head_found entry.found name _ ((is.members entry).0 has).1

pub returns-clause-bad : goal.returns-clause-bad
returns-clause-bad c = λ files folder dir entries entry is has. bad_found entry.found _ ((is.members entry).0 has).1

pub returns-clause-ascending : goal.returns-clause-ascending
returns-clause-ascending c = λ files folder dir entries is. is.rising

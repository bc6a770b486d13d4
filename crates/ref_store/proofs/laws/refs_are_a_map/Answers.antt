use Rattle.ref_store.proofs.MapLemmas.{other_refs_stay, set_ref_reads}
use Rattle.ref_store.proofs.laws.refs_are_a_map.Goals as goal

pub returns-clause-same : goal.returns-clause-same
returns-clause-same c = set_ref_reads

pub returns-clause-other : goal.returns-clause-other
returns-clause-other c = other_refs_stay

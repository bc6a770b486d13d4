use Rattle.ref_store.proofs.MapLemmas.{objects_stay}
use Rattle.ref_store.proofs.laws.refs_are_no_objects.Goals as goal

pub returns : goal.returns
returns c = λ files folder rest head. λ i name. objects_stay files folder rest head name i

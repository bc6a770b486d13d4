use Rattle.ref_store.proofs.IdPathLemmas.{id_place_is_not_packed}
use Rattle.ref_store.proofs.laws.ids_stand_beside_packed_refs.Goals as goal

pub returns : goal.returns
returns c = id_place_is_not_packed

use Rattle.ref_store.proofs.IdPathLemmas.{id_place_is_no_object}
use Rattle.ref_store.proofs.laws.ids_stand_at_no_object_path.Goals as goal

pub returns : goal.returns
returns c = id_place_is_no_object

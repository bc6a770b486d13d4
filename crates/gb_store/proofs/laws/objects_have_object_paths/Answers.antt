use Rattle.gb_store.proofs.ObjectPathLemmas.{is_object_path-form, object_place-form}
use Rattle.gb_store.proofs.laws.objects_have_object_paths.Goals as goal

pub returns : goal.returns
returns c = λ folder name is. is_object_path-form _ (object_place-form folder name is)

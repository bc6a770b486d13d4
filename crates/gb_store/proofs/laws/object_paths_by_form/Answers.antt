use Rattle.gb_store.proofs.ObjectPathLemmas.{form_of_parts, is_object_path-form}
use Rattle.gb_store.proofs.laws.object_paths_by_form.Goals as goal

pub returns : goal.returns
returns c = λ path. (form_of_parts path, is_object_path-form path)

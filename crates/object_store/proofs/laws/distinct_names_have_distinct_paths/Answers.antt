use Rattle.object_store.proofs.PathLemmas.{path_name}
use Rattle.object_store.proofs.laws.distinct_names_have_distinct_paths.Goals as goal

pub returns : goal.returns
returns c = path_name

use Rattle.object_store.proofs.GrowthLemmas.{objects_grew}
use Rattle.object_store.proofs.laws.writes_of_objects_only_add.Goals as goal

pub returns : goal.returns
returns c = objects_grew

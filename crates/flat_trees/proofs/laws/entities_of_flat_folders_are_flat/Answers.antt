use Rattle.flat_trees.proofs.EntityLemmas.{entities_flat}
use Rattle.flat_trees.proofs.laws.entities_of_flat_folders_are_flat.Goals as goal

pub returns : goal.returns
returns c = entities_flat

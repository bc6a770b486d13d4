use Rattle.copy_limits.proofs.MadeLemmas.{pack_flat, version_flat}
use Rattle.copy_limits.proofs.flat_laws.made_trees_are_flat.Goals as goal

pub returns-clause-version : goal.returns-clause-version
returns-clause-version c = version_flat

pub returns-clause-pack : goal.returns-clause-pack
returns-clause-pack c = pack_flat

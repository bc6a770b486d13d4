use Rattle.copy_limits.proofs.MadeLemmas.{pack_has_flat, version_has_flat}
use Rattle.copy_limits.proofs.flat_laws.made_commits_have_flat_trees.Goals as goal

pub returns-clause-version : goal.returns-clause-version
returns-clause-version c = version_has_flat

pub returns-clause-pack : goal.returns-clause-pack
returns-clause-pack c = λ objects parents pack now may in_time names stand. pack_has_flat objects parents pack now may in_time names stand

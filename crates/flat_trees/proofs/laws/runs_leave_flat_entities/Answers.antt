use Rattle.flat_trees.proofs.EntityLemmas.{runs_copied, runs_entities}
use Rattle.flat_trees.proofs.laws.runs_leave_flat_entities.Goals as goal

pub returns-clause-flat : goal.returns-clause-flat
returns-clause-flat c = λ folders folder new apart runs is. runs_entities folders apart new runs folder is

pub returns-clause-copied : goal.returns-clause-copied
returns-clause-copied c = λ folders source target new closed word id head why apart runs one_text is also is_id at cause.
    runs_copied folders apart new runs one_text source target is also closed word id head why is_id at cause

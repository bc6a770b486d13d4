use Rattle.clean_folders.proofs.GeneratedLemmas.{told_after, told_before}
use Rattle.clean_folders.proofs.world_laws.told_worlds_are_clean.Goals as goal

pub returns-clause-before : goal.returns-clause-before
returns-clause-before c = told_before

pub returns-clause-after : goal.returns-clause-after
returns-clause-after c = told_after

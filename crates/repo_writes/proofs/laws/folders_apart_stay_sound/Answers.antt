use Rattle.repo_writes.proofs.KeptLemmas.{apart_keeps_parts, apart_loses_nothing}
use Rattle.repo_writes.proofs.laws.folders_apart_stay_sound.Goals as goal

pub returns-clause-parts : goal.returns-clause-parts
returns-clause-parts c = apart_keeps_parts

pub returns-clause-kept : goal.returns-clause-kept
returns-clause-kept c = apart_loses_nothing

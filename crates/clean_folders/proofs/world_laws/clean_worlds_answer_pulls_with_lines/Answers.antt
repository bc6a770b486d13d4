use Rattle.clean_folders.proofs.WorldPullLemmas.{pull_is_not_taken, pull_prints}
use Rattle.clean_folders.proofs.world_laws.clean_worlds_answer_pulls_with_lines.Goals as goal

pub returns-clause-taken : goal.returns-clause-taken
returns-clause-taken c = λ folders event peer ended old new name clean within pulls done one_each.
    pull_is_not_taken folders event peer ended old new clean within pulls done one_each name

pub returns-clause-lines : goal.returns-clause-lines
returns-clause-lines c = pull_prints

use Rattle.exchange_runs.proofs.FolderLemmas.{word_is_folder}
use Rattle.exchange_runs.proofs.WorldLemmas.{world_again, world_same, world_union}
use Rattle.exchange_runs.proofs.laws.exchanged_folders_agree.Goals as goal

pub returns-clause-union : goal.returns-clause-union
returns-clause-union c = world_union

pub returns-clause-same : goal.returns-clause-same
returns-clause-same c = world_same

pub returns-clause-again : goal.returns-clause-again
returns-clause-again c = world_again

pub returns-clause-named : goal.returns-clause-named
returns-clause-named c = word_is_folder

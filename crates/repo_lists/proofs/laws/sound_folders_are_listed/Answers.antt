use Rattle.repo_lists.proofs.ListLemmas.{list_not_damaged}
use Rattle.repo_lists.proofs.laws.sound_folders_are_listed.Goals as goal

pub returns : goal.returns
returns c = λ folder path layout query old new sound is. list_not_damaged folder layout query old new sound path is

use Rattle.clean_folders.proofs.EventLeftLemmas.{clean_world}
use Rattle.clean_folders.proofs.world_laws.worlds_of_distinct_seeds_are_clean.Goals as goal

pub returns : goal.returns
returns c = clean_world

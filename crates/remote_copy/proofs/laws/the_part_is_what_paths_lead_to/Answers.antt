use Rattle.remote_copy.proofs.KeptLemmas.{part_path, path_part}
use Rattle.remote_copy.proofs.laws.the_part_is_what_paths_lead_to.Goals as goal

pub returns : goal.returns
returns c = λ closed source target head one. (part_path closed source target head one, path_part closed source target head one)

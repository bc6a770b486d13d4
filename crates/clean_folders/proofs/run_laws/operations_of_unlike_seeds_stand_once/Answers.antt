use Rattle.clean_folders.proofs.RunCleanLemmas.{each_once}
use Rattle.clean_folders.proofs.run_laws.operations_of_unlike_seeds_stand_once.Goals as goal

pub returns : goal.returns
returns c = λ folders new apart runs one_text seeds none. each_once folders apart new runs seeds none one_text

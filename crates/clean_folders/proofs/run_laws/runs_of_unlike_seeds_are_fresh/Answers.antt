use Rattle.clean_folders.proofs.FreshLemmas.{runs_fresh}
use Rattle.clean_folders.proofs.run_laws.runs_of_unlike_seeds_are_fresh.Goals as goal

pub returns : goal.returns
returns c = λ folders new apart runs one_text seeds none. runs_fresh folders apart new runs one_text seeds none

use Rattle.flat_trees.proofs.RunLemmas.{run_flat, runs_flat}
use Rattle.flat_trees.proofs.laws.trees_stay_flat.Goals as goal

pub returns-clause-run : goal.returns-clause-run
returns-clause-run c = λ folders old new apart run takes flat. run_flat folders apart old new run takes flat

pub returns-clause-runs : goal.returns-clause-runs
returns-clause-runs c = λ folders new apart runs. runs_flat folders apart new runs

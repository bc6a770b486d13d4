use Rattle.bug_run.proofs.ServedLemmas.{run_shows}
use Rattle.bug_run.proofs.laws.show_prints_the_operations_in_order.Goals as goal

pub returns : goal.returns
returns c = run_shows

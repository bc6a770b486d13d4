use Rattle.bug_run.proofs.ServedLemmas.{run_served}
use Rattle.bug_run.proofs.laws.sound_folders_are_served.Goals as goal

pub returns : goal.returns
returns c = run_served

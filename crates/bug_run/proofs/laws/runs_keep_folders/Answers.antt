use Rattle.bug_run.proofs.RunsLemmas.{runs_keep_sound, runs_lose_nothing}
use Rattle.bug_run.proofs.laws.runs_keep_folders.Goals as goal

pub returns-clause-sound : goal.returns-clause-sound
returns-clause-sound c = λ folders old new apart. runs_keep_sound folders apart old new

pub returns-clause-kept : goal.returns-clause-kept
returns-clause-kept c = λ folders old new apart runs folder is. runs_lose_nothing folders apart folder is old new runs

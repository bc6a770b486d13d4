use Rattle.bug_run.proofs.RunsLemmas.{runs_from_nothing}
use Rattle.bug_run.proofs.laws.runs_from_nothing_are_sound.Goals as goal

pub returns : goal.returns
returns c = λ folders new apart. runs_from_nothing folders apart new

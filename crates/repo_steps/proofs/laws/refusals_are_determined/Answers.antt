use Rattle.repo_steps.proofs.ClearLemmas.{never_refused, one_refused}
use Rattle.repo_steps.proofs.laws.refusals_are_determined.Goals as goal

pub returns-clause-done : goal.returns-clause-done
returns-clause-done c = never_refused

pub returns-clause-one : goal.returns-clause-one
returns-clause-one c = one_refused

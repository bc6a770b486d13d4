use Rattle.repo_writes.proofs.KeptLemmas.{LosesNothing-then, loses_nothing}
use Rattle.repo_writes.proofs.laws.calls_lose_nothing.Goals as goal

pub returns-clause-one : goal.returns-clause-one
returns-clause-one c = loses_nothing

pub returns-clause-then : goal.returns-clause-then
returns-clause-then c = LosesNothing-then

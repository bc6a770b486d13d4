use Rattle.world.proofs.FolderLemmas.{are_apart}
use Rattle.world.proofs.WorldLemmas.{events_run}
use Rattle.world.proofs.laws.events_are_runs.Goals as goal

pub returns-clause-apart : goal.returns-clause-apart
returns-clause-apart c = are_apart

pub returns-clause-runs : goal.returns-clause-runs
returns-clause-runs c = λ folders events ends old new most. events_run folders most events ends old new

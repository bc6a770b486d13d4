use Rattle.sync_steps.proofs.StepLaws.{quiet_fetch, quiet_push}
use Rattle.sync_steps.proofs.laws.turns_that_carry_nothing_write_nothing.Goals as goal

pub returns-clause-fetch : goal.returns-clause-fetch
returns-clause-fetch c = λ own peer to turn old new step quiet. quiet_fetch own peer to turn.entity.id turn.entity.head turn.outcome old new step quiet

pub returns-clause-push : goal.returns-clause-push
returns-clause-push c = λ own peer of held turn old new step quiet. quiet_push own peer of held turn old new step quiet

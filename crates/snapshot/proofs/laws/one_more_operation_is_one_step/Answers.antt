use Rattle.snapshot.proofs.StepLemmas.{more_is_step}
use Rattle.snapshot.proofs.laws.one_more_operation_is_one_step.Goals as goal

pub returns : goal.returns
returns c = more_is_step

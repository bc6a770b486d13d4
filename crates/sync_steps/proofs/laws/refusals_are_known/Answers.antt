use Rattle.sync_steps.proofs.HeldLemmas.{not_refused, quiet}
use Rattle.sync_steps.proofs.laws.refusals_are_known.Goals as goal

pub returns-clause-refused : goal.returns-clause-refused
returns-clause-refused c = not_refused

pub returns-clause-quiet : goal.returns-clause-quiet
returns-clause-quiet c = quiet

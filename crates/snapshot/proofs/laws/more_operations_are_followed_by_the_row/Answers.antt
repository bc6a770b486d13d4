use Rattle.snapshot.proofs.StepLemmas.{row_step, row_steps, several_are_bug}
use Rattle.snapshot.proofs.laws.more_operations_are_followed_by_the_row.Goals as goal

pub returns-clause-one : goal.returns-clause-one
returns-clause-one c = row_step

pub returns-clause-all : goal.returns-clause-all
returns-clause-all c = row_steps

pub returns-clause-bug : goal.returns-clause-bug
returns-clause-bug c = several_are_bug

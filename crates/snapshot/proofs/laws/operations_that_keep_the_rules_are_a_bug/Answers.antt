use Rattle.snapshot.proofs.StepLemmas.{read_are_bug, more_are_bug}
use Rattle.snapshot.proofs.laws.operations_that_keep_the_rules_are_a_bug.Goals as goal

pub returns-clause-read : goal.returns-clause-read
returns-clause-read c = read_are_bug

pub returns-clause-more : goal.returns-clause-more
returns-clause-more c = more_are_bug

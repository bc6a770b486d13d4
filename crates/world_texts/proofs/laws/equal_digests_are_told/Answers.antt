use Rattle.world_texts.proofs.EqualLemmas.{same_of_told, told_of_same}
use Rattle.world_texts.proofs.laws.equal_digests_are_told.Goals as goal

pub returns-clause-same : goal.returns-clause-same
returns-clause-same c = same_of_told

pub returns-clause-each : goal.returns-clause-each
returns-clause-each c = told_of_same

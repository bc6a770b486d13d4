use Rattle.snapshot.proofs.LabelLemmas.{labels_ascend, labels_have, labels_only}
use Rattle.snapshot.proofs.laws.labels_are_those_that_are_on.Goals as goal

pub returns-clause-ascend : goal.returns-clause-ascend
returns-clause-ascend c = labels_ascend

pub returns-clause-same : goal.returns-clause-same
returns-clause-same c = labels_have

pub returns-clause-only : goal.returns-clause-only
returns-clause-only c = labels_only

use Rattle.snapshot.proofs.StepLemmas.{fold_is}
use Rattle.snapshot.proofs.laws.snapshots_are_those_of_the_fold.Goals as goal

pub returns : goal.returns
returns c = fold_is

use Rattle.snapshot.proofs.StepLemmas.{count_is}
use Rattle.snapshot.proofs.laws.comments_are_counted.Goals as goal

pub returns : goal.returns
returns c = count_is

use Rattle.snapshot.proofs.StepLemmas.{no_op_is}
use Rattle.snapshot.proofs.laws.a_no_op_changes_who_acted_and_when.Goals as goal

pub returns : goal.returns
returns c = no_op_is

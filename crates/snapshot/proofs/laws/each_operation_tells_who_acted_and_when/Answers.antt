use Rattle.snapshot.proofs.ActLemmas.{who_acted}
use Rattle.snapshot.proofs.laws.each_operation_tells_who_acted_and_when.Goals as goal

pub returns : goal.returns
returns c = who_acted

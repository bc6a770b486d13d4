use Rattle.snapshot.proofs.ActLemmas.{creation_says}
use Rattle.snapshot.proofs.laws.a_creation_begins_a_bug.Goals as goal

pub returns : goal.returns
returns c = creation_says

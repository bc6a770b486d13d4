use Rattle.snapshot.proofs.ActLemmas.{only_creations}
use Rattle.snapshot.proofs.laws.all_but_a_creation_may_follow.Goals as goal

pub returns-clause-only : goal.returns-clause-only
returns-clause-only c = only_creations

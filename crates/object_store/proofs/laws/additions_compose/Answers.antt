use Rattle.object_store.proofs.GrowthLemmas.{OnlyGrew-none, OnlyGrew-then}
use Rattle.object_store.proofs.laws.additions_compose.Goals as goal

pub returns-clause-none : goal.returns-clause-none
returns-clause-none c = OnlyGrew-none

pub returns-clause-then : goal.returns-clause-then
returns-clause-then c = OnlyGrew-then

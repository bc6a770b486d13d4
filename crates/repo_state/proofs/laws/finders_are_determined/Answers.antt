use Rattle.repo_state.proofs.FoundLemmas.{heads_are_determined, ids_are_determined}
use Rattle.repo_state.proofs.laws.finders_are_determined.Goals as goal

pub returns-clause-ids : goal.returns-clause-ids
returns-clause-ids c = ids_are_determined

pub returns-clause-heads : goal.returns-clause-heads
returns-clause-heads c = heads_are_determined

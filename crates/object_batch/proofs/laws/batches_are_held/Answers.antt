use Rattle.object_batch.proofs.PlanLemmas.{batch_grew, batch_held}
use Rattle.object_batch.proofs.laws.batches_are_held.Goals as goal

pub returns-clause-held : goal.returns-clause-held
returns-clause-held c = batch_held

pub returns-clause-kept : goal.returns-clause-kept
returns-clause-kept c = batch_grew

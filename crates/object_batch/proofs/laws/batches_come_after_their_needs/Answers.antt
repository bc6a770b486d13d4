use Rattle.object_batch.proofs.NeedLemmas.{batch_needed}
use Rattle.object_batch.proofs.laws.batches_come_after_their_needs.Goals as goal

pub returns : goal.returns
returns c = batch_needed

use Rattle.merge_steps.proofs.MergeWriteLemmas.{merge_wrote}
use Rattle.merge_steps.proofs.laws.merges_write_of_their_kinds.Goals as goal

pub returns : goal.returns
returns c = merge_wrote

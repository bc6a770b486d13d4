use Rattle.remote_copy.proofs.SpareLemmas.{twice}
use Rattle.remote_copy.proofs.laws.copies_read_two_objects_for_each.Goals as goal

pub returns : goal.returns
returns c = twice

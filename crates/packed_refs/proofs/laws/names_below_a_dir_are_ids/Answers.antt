use Rattle.packed_refs.proofs.BelowLemmas.{names_below}
use Rattle.packed_refs.proofs.laws.names_below_a_dir_are_ids.Goals as goal

pub returns : goal.returns
returns c = names_below

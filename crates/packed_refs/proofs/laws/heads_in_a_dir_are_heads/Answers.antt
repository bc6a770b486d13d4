use Rattle.packed_refs.proofs.HeadLemmas.{heads_are}
use Rattle.packed_refs.proofs.laws.heads_in_a_dir_are_heads.Goals as goal

pub returns : goal.returns
returns c = heads_are

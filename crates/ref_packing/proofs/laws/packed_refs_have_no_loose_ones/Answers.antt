use Rattle.ref_packing.proofs.WriteLemmas.{packed_none_left}
use Rattle.ref_packing.proofs.laws.packed_refs_have_no_loose_ones.Goals as goal

pub returns : goal.returns
returns c = packed_none_left

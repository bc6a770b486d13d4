use Rattle.ref_packing.proofs.PlaceLemmas.{pack-place}
use Rattle.ref_packing.proofs.laws.packs_leave_other_files.Goals as goal

pub returns : goal.returns
returns c = pack-place

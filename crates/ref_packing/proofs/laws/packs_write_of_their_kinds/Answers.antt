use Rattle.ref_packing.proofs.WroteLemmas.{maybe_wrote, packs_maybe}
use Rattle.ref_packing.proofs.laws.packs_write_of_their_kinds.Goals as goal

pub returns-clause-kinds : goal.returns-clause-kinds
returns-clause-kinds c = maybe_wrote

pub returns-clause-done : goal.returns-clause-done
returns-clause-done c = packs_maybe

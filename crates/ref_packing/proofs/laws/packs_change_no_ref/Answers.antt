use Rattle.ref_packing.proofs.RefLemmas.{moments_keep, write_keeps}
use Rattle.ref_packing.proofs.laws.packs_change_no_ref.Goals as goal

pub returns-clause-write : goal.returns-clause-write
returns-clause-write c = λ folder files change path. write_keeps folder files change path

pub returns-clause-moments : goal.returns-clause-moments
returns-clause-moments c = moments_keep

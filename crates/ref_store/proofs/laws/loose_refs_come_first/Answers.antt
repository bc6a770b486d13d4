use Rattle.ref_store.proofs.FrameLemmas.{loose_ref, packed_ref}
use Rattle.ref_store.proofs.laws.loose_refs_come_first.Goals as goal

pub returns-clause-loose : goal.returns-clause-loose
returns-clause-loose c = loose_ref

pub returns-clause-packed : goal.returns-clause-packed
returns-clause-packed c = packed_ref

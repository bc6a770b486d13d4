use Rattle.ref_store.proofs.FrameLemmas.{same_ref}
use Rattle.ref_store.proofs.laws.refs_are_read_from_two_files.Goals as goal

pub returns : goal.returns
returns c = same_ref

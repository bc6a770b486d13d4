use Rattle.ref_store.proofs.FrameLemmas.{ref_at-apart}
use Rattle.ref_store.proofs.laws.refs_of_folders_apart.Goals as goal

pub returns : goal.returns
returns c = ref_at-apart

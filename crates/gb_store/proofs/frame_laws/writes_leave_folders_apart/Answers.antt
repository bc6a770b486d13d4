use Rattle.gb_store.proofs.FrameLemmas.{written-apart}
use Rattle.gb_store.proofs.frame_laws.writes_leave_folders_apart.Goals as goal

pub returns : goal.returns
returns c = written-apart

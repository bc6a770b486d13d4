use Rattle.gb_store.proofs.FrameLemmas.{written-beside}
use Rattle.gb_store.proofs.frame_laws.writes_leave_other_places.Goals as goal

pub returns : goal.returns
returns c = written-beside

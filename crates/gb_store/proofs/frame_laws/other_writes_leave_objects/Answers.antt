use Rattle.gb_store.proofs.FrameLemmas.{written-no_object}
use Rattle.gb_store.proofs.frame_laws.other_writes_leave_objects.Goals as goal

pub returns : goal.returns
returns c = written-no_object

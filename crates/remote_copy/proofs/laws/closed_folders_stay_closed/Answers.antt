use Rattle.gb_store.proofs.MomentLemmas.{AllMoments-from_Wrote}
use Rattle.object_store.specs.Held.{objects_in}
use Rattle.remote_copy.specs.Closure.{IsClosed}
use Rattle.remote_copy.specs.Writes.{PutsCopy}
use Rattle.remote_copy.proofs.KeptLemmas.{keeps_closed}
use Rattle.remote_copy.proofs.laws.closed_folders_stay_closed.Goals as goal

pub returns : goal.returns
returns c = λ closed source target entry head old new was_closed wrote.
    AllMoments-from_Wrote (PutsCopy closed source target entry head) (λ files. IsClosed (objects_in files target)) (λ files change was may. keeps_closed closed source target entry head files change may was) old new was_closed wrote

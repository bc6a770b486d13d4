use Rattle.gb_store.proofs.MomentLemmas.{AllMoments-from_Wrote}
use Rattle.object_store.specs.Held.{objects_in}
use Rattle.remote_copy.specs.Closure.{HasWholeTrees}
use Rattle.remote_copy.specs.Writes.{PutsCopy}
use Rattle.remote_copy.proofs.KeptLemmas.{keeps_trees}
use Rattle.remote_copy.proofs.laws.whole_trees_stay_whole.Goals as goal

pub returns : goal.returns
returns c = λ closed source target entry head old new whole wrote.
    AllMoments-from_Wrote (PutsCopy closed source target entry head) (λ files. HasWholeTrees (objects_in files target)) (λ files change was may. keeps_trees closed source target entry head files change may was) old new whole wrote

use Rattle.object_store.proofs.HeldLemmas.{one_held}
use Rattle.object_store.proofs.laws.a_name_holds_one_object.Goals as goal

pub returns : goal.returns
returns c = one_held

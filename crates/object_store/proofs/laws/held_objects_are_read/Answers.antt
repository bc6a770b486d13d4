use Rattle.object_store.proofs.HeldLemmas.{object_at-is, object_at-held}
use Rattle.object_store.proofs.laws.held_objects_are_read.Goals as goal

pub returns : goal.returns
returns c = λ objects name object. (object_at-is objects name object, object_at-held objects name object)

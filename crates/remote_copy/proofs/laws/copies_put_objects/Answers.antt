use Rattle.gb_store.proofs.MomentLemmas.{Wrote-wider}
use Rattle.object_store.specs.Puts.{PutsObject}
use Rattle.remote_copy.specs.Writes.{PutsCopy}
use Rattle.remote_copy.proofs.KeptLemmas.{puts_object}
use Rattle.remote_copy.proofs.laws.copies_put_objects.Goals as goal

pub returns : goal.returns
returns c = λ closed source target entry head old new wrote. Wrote-wider (PutsCopy closed source target entry head) (PutsObject target) old new (λ files change. puts_object closed source target entry head files change) wrote

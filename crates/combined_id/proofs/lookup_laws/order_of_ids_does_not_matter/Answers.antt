use Rattle.combined_id.proofs.LookupLemmas.{order_free}
use Rattle.combined_id.proofs.lookup_laws.order_of_ids_does_not_matter.Goals as goal

pub returns : goal.returns
returns c = order_free

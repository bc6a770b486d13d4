use Rattle.combined_id.proofs.LookupLemmas.{neighbours}
use Rattle.combined_id.proofs.lookup_laws.ambiguous_ids_are_neighbours.Goals as goal

pub returns : goal.returns
returns c = neighbours

use Rattle.identity.proofs.IdLemmas.{IsId-version_id}
use Rattle.identity.proofs.laws.version_ids_are_ids.Goals as goal

pub returns : goal.returns
returns c = IsId-version_id

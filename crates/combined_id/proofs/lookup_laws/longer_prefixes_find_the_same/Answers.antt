use Rattle.combined_id.proofs.LookupLemmas.{longer_finds}
use Rattle.combined_id.proofs.lookup_laws.longer_prefixes_find_the_same.Goals as goal

pub returns : goal.returns
returns c = longer_finds

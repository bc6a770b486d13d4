use Rattle.identity.proofs.NoFaultLemmas.{chain_shows}
use Rattle.identity.proofs.laws.valid_chains_show_a_person.Goals as goal

pub returns : goal.returns
returns c = chain_shows

use Rattle.sync_steps.proofs.FetchedLemmas.{fetched_stands}
use Rattle.sync_steps.proofs.laws.fetched_refs_have_the_peers_heads.Goals as goal

pub returns : goal.returns
returns c = λ own peer remote old new lines line done has is. fetched_stands own peer remote old new lines done line has is

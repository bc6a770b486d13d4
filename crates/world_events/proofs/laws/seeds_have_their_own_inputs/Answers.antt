use Rattle.world_events.proofs.SeedLemmas.{seed_text-injective}
use Rattle.world_events.proofs.laws.seeds_have_their_own_inputs.Goals as goal

pub returns : goal.returns
returns c = seed_text-injective

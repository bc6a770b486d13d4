use Rattle.identity_runs.proofs.SeedLemmas.{made_once}
use Rattle.identity_runs.proofs.home_laws.identities_of_unlike_seeds_are_made_once.Goals as goal

pub returns : goal.returns
returns c = λ folders old new runs seeds none. made_once folders old new runs seeds none

use Rattle.operation_seeds.proofs.SeedLemmas.{unlike}
use Rattle.operation_seeds.proofs.laws.unlike_seeds_make_unlike_operations.Goals as goal

pub returns : goal.returns
returns c = unlike

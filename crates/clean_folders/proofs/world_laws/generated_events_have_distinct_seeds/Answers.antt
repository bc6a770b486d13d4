use Rattle.clean_folders.proofs.GeneratedLemmas.{generated_distinct}
use Rattle.clean_folders.proofs.world_laws.generated_events_have_distinct_seeds.Goals as goal

pub returns : goal.returns
returns c = generated_distinct

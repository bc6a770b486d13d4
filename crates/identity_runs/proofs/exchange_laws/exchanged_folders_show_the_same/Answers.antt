use Rattle.identity_runs.proofs.WorldLemmas.{same_digests}
use Rattle.identity_runs.proofs.exchange_laws.exchanged_folders_show_the_same.Goals as goal

pub returns : goal.returns
returns c = same_digests

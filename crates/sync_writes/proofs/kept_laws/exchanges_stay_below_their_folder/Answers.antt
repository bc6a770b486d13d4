use Rattle.sync_writes.proofs.PlaceLemmas.{fetch-place, push-place}
use Rattle.sync_writes.proofs.kept_laws.exchanges_stay_below_their_folder.Goals as goal

pub returns-clause-fetch : goal.returns-clause-fetch
returns-clause-fetch c = fetch-place

pub returns-clause-push : goal.returns-clause-push
returns-clause-push c = push-place

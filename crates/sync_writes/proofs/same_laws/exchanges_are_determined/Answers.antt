use Rattle.sync_writes.proofs.SameLemmas.{fetch_same, push_same}
use Rattle.sync_writes.proofs.same_laws.exchanges_are_determined.Goals as goal

pub returns-clause-fetch : goal.returns-clause-fetch
returns-clause-fetch c = fetch_same

pub returns-clause-push : goal.returns-clause-push
returns-clause-push c = push_same

use Rattle.sync_writes.proofs.ApartLemmas.{fetch_leaves, push_leaves}
use Rattle.sync_writes.proofs.kept_laws.exchanges_leave_folders_apart.Goals as goal

pub returns-clause-fetch : goal.returns-clause-fetch
returns-clause-fetch c = fetch_leaves

pub returns-clause-push : goal.returns-clause-push
returns-clause-push c = push_leaves

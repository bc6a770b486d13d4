use Rattle.sync_writes.proofs.FetchKeptLemmas.{fetch_loses_nothing}
use Rattle.sync_writes.proofs.kept_laws.fetches_lose_nothing.Goals as goal

pub returns : goal.returns
returns c = fetch_loses_nothing

use Rattle.sync_writes.proofs.PushKeptLemmas.{push_loses_nothing}
use Rattle.sync_writes.proofs.kept_laws.pushes_lose_nothing.Goals as goal

pub returns : goal.returns
returns c = push_loses_nothing

use Rattle.sync_writes.proofs.FetchKeptLemmas.{fetch_keeps_parts}
use Rattle.sync_writes.proofs.kept_laws.fetches_keep_folders_sound.Goals as goal

pub returns : goal.returns
returns c = fetch_keeps_parts

use Rattle.sync_writes.proofs.FetchKindLemmas.{fetch_writes}
use Rattle.sync_writes.proofs.kind_laws.fetches_write_of_their_kinds.Goals as goal

pub returns : goal.returns
returns c = λ own peer remote old new result apart answers. fetch_writes own peer remote apart old new result answers

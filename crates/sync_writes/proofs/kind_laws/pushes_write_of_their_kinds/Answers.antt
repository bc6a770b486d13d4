use Rattle.sync_writes.proofs.PushKindLemmas.{push_writes}
use Rattle.sync_writes.proofs.kind_laws.pushes_write_of_their_kinds.Goals as goal

pub returns : goal.returns
returns c = λ own peer old new result apart answers. push_writes own peer apart old new result answers

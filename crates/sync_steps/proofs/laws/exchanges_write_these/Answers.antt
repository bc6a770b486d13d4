use Rattle.sync_steps.proofs.FetchWriteLemmas.{fetch_wrote}
use Rattle.sync_steps.proofs.PushWriteLemmas.{push_wrote}
use Rattle.sync_steps.proofs.laws.exchanges_write_these.Goals as goal

pub returns-clause-fetch : goal.returns-clause-fetch
returns-clause-fetch c = λ own peer remote old new result apart answers. fetch_wrote own peer remote apart old new result answers

pub returns-clause-push : goal.returns-clause-push
returns-clause-push c = λ own peer old new result apart answers. push_wrote own peer apart old new result answers

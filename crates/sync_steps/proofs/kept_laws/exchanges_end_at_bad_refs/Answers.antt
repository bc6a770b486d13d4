use Rattle.sync_steps.proofs.StopLemmas.{fetch_ends, push_ends}
use Rattle.sync_steps.proofs.kept_laws.exchanges_end_at_bad_refs.Goals as goal

pub returns-clause-fetch : goal.returns-clause-fetch
returns-clause-fetch c = λ own peer remote old new path answers. fetch_ends own peer remote old new path answers

pub returns-clause-push : goal.returns-clause-push
returns-clause-push c = λ own peer old new path answers. push_ends own peer old new path answers

use Rattle.sync_steps.proofs.QuietLemmas.{fetch_quiet, push_quiet}
use Rattle.sync_steps.proofs.kept_laws.nothing_new_is_quiet.Goals as goal

pub returns-clause-fetch : goal.returns-clause-fetch
returns-clause-fetch c = λ own peer remote old new lines done known. fetch_quiet own peer remote old new lines done known

pub returns-clause-push : goal.returns-clause-push
returns-clause-push c = λ own peer old new lines done known. push_quiet own peer old new lines done known

use Rattle.sync_steps.proofs.FetchTurnLemmas.{fetch_same, fetch_told}
use Rattle.sync_steps.proofs.kept_laws.heads_are_fetched_unless_a_copy_has_a_cause.Goals as goal

pub returns-clause-same : goal.returns-clause-same
returns-clause-same c = λ own peer remote old new lines line apart done has. fetch_same own peer remote apart old new lines done line has

pub returns-clause-fetched : goal.returns-clause-fetched
returns-clause-fetched c = λ own peer remote old new lines line head apart done has is. fetch_told own peer remote apart old new lines done line has head is

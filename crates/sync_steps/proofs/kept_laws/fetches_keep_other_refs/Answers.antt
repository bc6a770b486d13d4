use Rattle.sync_steps.proofs.BadRefLemmas.{fetch_bad}
use Rattle.sync_steps.proofs.FetchTurnLemmas.{tracking_kept}
use Rattle.sync_steps.proofs.FetchWriteLemmas.{fetch_wrote}
use Rattle.sync_steps.proofs.OtherRefLemmas.{fetch_leaves}
use Rattle.sync_steps.proofs.kept_laws.fetches_keep_other_refs.Goals as goal

pub returns-clause-others : goal.returns-clause-others
returns-clause-others c = λ own peer remote old new result of id apart answers other. fetch_leaves own peer remote of id other old new (fetch_wrote own peer remote apart old new result answers)

pub returns-clause-refused : goal.returns-clause-refused
returns-clause-refused c = λ own peer remote old new lines line apart done has refused. tracking_kept own peer remote apart old new lines done line has refused

pub returns-clause-bad : goal.returns-clause-bad
returns-clause-bad c = λ own peer remote old new result of id answers bad. fetch_bad own peer of id remote old new result answers bad

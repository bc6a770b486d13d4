use Rattle.sync_steps.proofs.BadRefLemmas.{push_bad_stays}
use Rattle.sync_steps.proofs.OtherRefLemmas.{push_leaves}
use Rattle.sync_steps.proofs.PushTurnLemmas.{peer_kept}
use Rattle.sync_steps.proofs.PushWriteLemmas.{push_wrote}
use Rattle.sync_steps.proofs.kept_laws.pushes_keep_other_refs.Goals as goal

pub returns-clause-others : goal.returns-clause-others
returns-clause-others c = λ own peer old new result of id apart answers other. push_leaves own peer of id other old new (push_wrote own peer apart old new result answers)

pub returns-clause-refused : goal.returns-clause-refused
returns-clause-refused c = λ own peer old new lines line apart done has refused. peer_kept own peer apart old new lines done line has refused

pub returns-clause-bad : goal.returns-clause-bad
returns-clause-bad c = λ own peer old new result of id answers bad. push_bad_stays own peer of id old new result answers bad

use Rattle.sync_steps.proofs.StepLaws.{pushed_forward, tracking_reads}
use Rattle.sync_steps.proofs.laws.refs_are_set_over_older_heads.Goals as goal

pub returns-clause-tracking : goal.returns-clause-tracking
returns-clause-tracking c = λ own peer to turn name old new step is bad. tracking_reads own peer to turn.entity.id turn.entity.head name turn.outcome old new is step bad

pub returns-clause-pushed : goal.returns-clause-pushed
returns-clause-pushed c = λ own peer of held turn name old new step is at. pushed_forward own peer of held turn name old new step is at

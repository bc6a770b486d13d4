use Rattle.sync_steps.proofs.PushTurnLemmas.{push_bad, push_beside, push_local, push_same, push_told}
use Rattle.sync_steps.proofs.kept_laws.heads_are_pushed_unless_a_copy_has_a_cause.Goals as goal

pub returns-clause-same : goal.returns-clause-same
returns-clause-same c = λ own peer old new lines line apart done has free. push_same own peer apart old new lines done line has free

pub returns-clause-not_forward : goal.returns-clause-not_forward
returns-clause-not_forward c = λ own peer old new lines line other apart done has free. push_beside own peer apart old new lines done line has other free

pub returns-clause-pushed : goal.returns-clause-pushed
returns-clause-pushed c = λ own peer old new lines line head apart done has is. push_told own peer apart old new lines done line has head is

pub returns-clause-heads : goal.returns-clause-heads
returns-clause-heads c = λ own peer old new lines line apart done has free. push_local own peer apart old new lines done line has free

pub returns-clause-bad : goal.returns-clause-bad
returns-clause-bad c = λ own peer old new lines line apart done has free. push_bad own peer apart old new lines done line has free

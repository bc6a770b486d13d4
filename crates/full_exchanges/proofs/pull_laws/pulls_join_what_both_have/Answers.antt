use Rattle.full_exchanges.proofs.PullLemmas.{pull_joins, pull_leaves, pull_sound}
use Rattle.full_exchanges.proofs.pull_laws.pulls_join_what_both_have.Goals as goal

pub returns-clause-joins : goal.returns-clause-joins
returns-clause-joins c = λ pull old new apart sound also one_text was. pull_joins pull old new apart was sound also one_text

pub returns-clause-sound : goal.returns-clause-sound
returns-clause-sound c = λ pull old new apart sound was. pull_sound pull old new apart was sound

pub returns-clause-untouched : goal.returns-clause-untouched
returns-clause-untouched c = λ pull folder old new apart other was. pull_leaves pull old new apart was folder other

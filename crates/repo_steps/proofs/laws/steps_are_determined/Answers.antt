use Rattle.repo_steps.proofs.StepLemmas.{steps-same}
use Rattle.repo_steps.proofs.laws.steps_are_determined.Goals as goal

pub returns-clause-told : goal.returns-clause-told
returns-clause-told c = λ env command old one two first second here there. (steps-same env command old one two first second here there).told

pub returns-clause-heads : goal.returns-clause-heads
returns-clause-heads c = λ env command old one two first second here there. (steps-same env command old one two first second here there).heads

pub returns-clause-user : goal.returns-clause-user
returns-clause-user c = λ env command old one two first second here there. (steps-same env command old one two first second here there).user

pub returns-clause-clocks : goal.returns-clause-clocks
returns-clause-clocks c = λ env command old one two first second here there. (steps-same env command old one two first second here there).clocks

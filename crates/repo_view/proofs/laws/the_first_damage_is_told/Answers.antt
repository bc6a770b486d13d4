use Rattle.repo_view.proofs.ShownLemmas.{bug_told_first, person_told_first}
use Rattle.repo_view.proofs.laws.the_first_damage_is_told.Goals as goal

pub returns-clause-show : goal.returns-clause-show
returns-clause-show c = bug_told_first

pub returns-clause-users : goal.returns-clause-users
returns-clause-users c = person_told_first

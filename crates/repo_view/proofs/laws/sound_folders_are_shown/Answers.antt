use Rattle.repo_view.proofs.ShownLemmas.{show_not_damaged, users_not_damaged}
use Rattle.repo_view.proofs.laws.sound_folders_are_shown.Goals as goal

pub returns-clause-show : goal.returns-clause-show
returns-clause-show c = show_not_damaged

pub returns-clause-users : goal.returns-clause-users
returns-clause-users c = users_not_damaged

use Rattle.repo_view.proofs.MissedLemmas.{one_show_missed, one_users_damage}
use Rattle.repo_view.proofs.ShownLemmas.{one_show, one_users}
use Rattle.repo_view.proofs.laws.shown_texts_are_determined.Goals as goal

pub returns-clause-show : goal.returns-clause-show
returns-clause-show c = one_show

pub returns-clause-users : goal.returns-clause-users
returns-clause-users c = one_users

pub returns-clause-show_missed : goal.returns-clause-show_missed
returns-clause-show_missed c = one_show_missed

pub returns-clause-users_damaged : goal.returns-clause-users_damaged
returns-clause-users_damaged c = one_users_damage

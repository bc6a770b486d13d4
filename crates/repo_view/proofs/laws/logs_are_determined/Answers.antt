use Rattle.repo_view.proofs.LawLemmas.{one_log}
use Rattle.repo_view.proofs.MissedLemmas.{one_log_missed}
use Rattle.repo_view.proofs.laws.logs_are_determined.Goals as goal

pub returns-clause-told : goal.returns-clause-told
returns-clause-told c = one_log

pub returns-clause-missed : goal.returns-clause-missed
returns-clause-missed c = one_log_missed

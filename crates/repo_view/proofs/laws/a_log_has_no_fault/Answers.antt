use Rattle.repo_view.proofs.LawLemmas.{no_fault, log_not_missed}
use Rattle.repo_view.proofs.laws.a_log_has_no_fault.Goals as goal

pub returns-clause-fault : goal.returns-clause-fault
returns-clause-fault c = no_fault

pub returns-clause-missed : goal.returns-clause-missed
returns-clause-missed c = log_not_missed

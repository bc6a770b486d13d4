use Rattle.repo_view.proofs.ShownLemmas.{show_not_missed, shown_no_fault}
use Rattle.repo_view.proofs.laws.a_shown_bug_has_no_fault.Goals as goal

pub returns-clause-fault : goal.returns-clause-fault
returns-clause-fault c = shown_no_fault

pub returns-clause-missed : goal.returns-clause-missed
returns-clause-missed c = show_not_missed

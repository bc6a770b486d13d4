use Rattle.gb_store.specs.Files.{files_of}
use Rattle.bug_run.proofs.RunsLemmas.{runs_lose_nothing}
use Rattle.run_moments.proofs.AcknowledgedLemmas.{all_below_kept}
use Rattle.run_moments.proofs.EditLemmas.{head_kept}
use Rattle.run_moments.proofs.SurviveLemmas.{commit_kept}
use Rattle.run_moments.proofs.kept_laws.runs_keep_what_refs_lead_to.Goals as goal

pub returns-clause-commits : goal.returns-clause-commits
returns-clause-commits c = λ folders old new folder apart runs is bug is_id placed has.
    commit_kept folder (files_of old) (files_of new) (runs_lose_nothing folders apart folder is old new runs) bug is_id placed has

pub returns-clause-heads : goal.returns-clause-heads
returns-clause-heads c = λ folders old new folder of id head apart runs is own is_id at.
    head_kept folder (files_of old) (files_of new) (runs_lose_nothing folders apart folder is old new runs) of own id is_id head at

pub returns-clause-below : goal.returns-clause-below
returns-clause-below c = λ folders old new folder head apart runs is.
    all_below_kept folder (files_of old) (files_of new) (runs_lose_nothing folders apart folder is old new runs) head

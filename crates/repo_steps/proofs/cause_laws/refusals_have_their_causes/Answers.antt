use Rattle.repo_steps.proofs.CauseLemmas.{bug_exists, comment_exists, name_taken, no_user, object_large, operation_exists, person_exists}
use Rattle.repo_steps.proofs.cause_laws.refusals_have_their_causes.Goals as goal

pub returns-clause-no_user : goal.returns-clause-no_user
returns-clause-no_user c = λ env command old. no_user env old command

pub returns-clause-person : goal.returns-clause-person
returns-clause-person c = person_exists

pub returns-clause-bug : goal.returns-clause-bug
returns-clause-bug c = bug_exists

pub returns-clause-operation : goal.returns-clause-operation
returns-clause-operation c = operation_exists

pub returns-clause-comment : goal.returns-clause-comment
returns-clause-comment c = comment_exists

pub returns-clause-name : goal.returns-clause-name
returns-clause-name c = λ env command picked old. name_taken env old command picked

pub returns-clause-size : goal.returns-clause-size
returns-clause-size c = λ env command picked old. object_large env old command picked

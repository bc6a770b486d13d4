use Rattle.ref_moments.proofs.EditLemmas.{edit_is_set, edit_sets}
use Rattle.ref_moments.proofs.step_laws.edits_set_one_ref_once.Goals as goal

pub returns-clause-once : goal.returns-clause-once
returns-clause-once c = λ env command old new result answers. (answers.0, answers.1, λ of id. edit_sets env command old new result answers of id)

pub returns-clause-done : goal.returns-clause-done
returns-clause-done c = λ env command picked old new told set done is. edit_is_set env command picked old new told done set is

pub returns-clause-refused : goal.returns-clause-refused
returns-clause-refused c = λ env command old new refusal answers. answers.1.1

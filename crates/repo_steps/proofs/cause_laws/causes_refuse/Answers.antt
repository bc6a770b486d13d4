use Rattle.std.proofs.Common.{refl}
use Rattle.repo_steps.proofs.Names.{HasBug, HasCommented, comment_growth, edit_growth, edited_comment_op, files_of}
use Rattle.words.specs.declared.edit.Edit.TheVariants as edit
use Rattle.repo_steps.proofs.ReportLemmas.{bug_reported, bug_too_large, edit_refused, edit_too_large, message_refused, name_reported, no_user_to_add, no_user_to_begin, no_user_to_edit, no_user_to_word, operation_reported, person_reported, person_too_large}
use Rattle.repo_steps.proofs.cause_laws.causes_refuse.Goals as goal

pub returns-clause-user_for_a_version : goal.returns-clause-user_for_a_version
returns-clause-user_for_a_version c = no_user_to_edit

pub returns-clause-user_for_a_bug : goal.returns-clause-user_for_a_bug
returns-clause-user_for_a_bug c = no_user_to_begin

pub returns-clause-user_for_an_edit : goal.returns-clause-user_for_an_edit
returns-clause-user_for_an_edit c = no_user_to_add

pub returns-clause-user_for_a_comment : goal.returns-clause-user_for_a_comment
returns-clause-user_for_a_comment c = no_user_to_word

pub returns-clause-person : goal.returns-clause-person
returns-clause-person c = λ env old name email good. (person_too_large env old name email good, person_reported env old name email good)

pub returns-clause-bug : goal.returns-clause-bug
returns-clause-bug c = λ env old title message user is_user. (bug_too_large env old title message user is_user, bug_reported env old title message user is_user)

pub returns-clause-edit : goal.returns-clause-edit
returns-clause-edit c = λ env old e word user is_user (bug : HasBug env.folder (files_of old) word) op adds clock room.
    let by = edit_refused env old e word bug.bug op in
    let command = edit.OfBug word e in
    let growth = edit_growth env e word in (
      edit_too_large env old command growth user is_user bug op adds by clock room,
      operation_reported env old command growth user is_user bug op adds by clock room,
      name_reported env old command growth user is_user bug op adds by clock room,
    )

pub returns-clause-message : goal.returns-clause-message
returns-clause-message c = λ env old message word user comment is_user (bug : HasCommented env.folder (files_of old) word comment) clock room.
    let op = edited_comment_op env.moment comment message in
    let by = message_refused env old message word comment bug.bug op in
    let command = edit.OfComment word message in
    let growth = comment_growth env message word comment in (
      edit_too_large env old command growth user is_user bug op refl by clock room,
      operation_reported env old command growth user is_user bug op refl by clock room,
      name_reported env old command growth user is_user bug op refl by clock room,
    )

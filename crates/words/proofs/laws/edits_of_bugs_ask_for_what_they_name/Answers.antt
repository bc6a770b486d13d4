use Rattle.std.proofs.Common.{◌∷◌}
use Rattle.bug_edits.specs.declared.edit.BugEdit.TheVariants as bug_edit
use Rattle.words.proofs.AskLemmas.{each, edit_comment}
use Rattle.words.proofs.laws.edits_of_bugs_ask_for_what_they_name.Goals as goal

pub returns-clause-each : goal.returns-clause-each
returns-clause-each c = each

pub returns-clause-comment : goal.returns-clause-comment
returns-clause-comment c = λ bug message. each bug (bug_edit.Comment message) tt

pub returns-clause-title : goal.returns-clause-title
returns-clause-title c = λ bug title. each bug (bug_edit.Title title) tt

pub returns-clause-meta : goal.returns-clause-meta
returns-clause-meta c = λ bug key value. each bug (bug_edit.Metadata key value) tt

pub returns-clause-label_add : goal.returns-clause-label_add
returns-clause-label_add c = λ bug label more. each bug (bug_edit.AddLabels (label ∷ more)) tt

pub returns-clause-label_rm : goal.returns-clause-label_rm
returns-clause-label_rm c = λ bug label more. each bug (bug_edit.RemoveLabels (label ∷ more)) tt

pub returns-clause-edit : goal.returns-clause-edit
returns-clause-edit c = edit_comment

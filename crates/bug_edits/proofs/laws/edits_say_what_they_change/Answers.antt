use Rattle.bug_edits.specs.declared.edit.BugEdit.TheVariants as kind
use Rattle.bug_edits.proofs.EditLemmas.{said}
use Rattle.bug_edits.proofs.laws.edits_say_what_they_change.Goals as goal

pub returns-clause-each : goal.returns-clause-each
returns-clause-each c = said

pub returns-clause-title : goal.returns-clause-title
returns-clause-title c = λ moment ops op bug place title is. said moment ops op bug place (kind.Title title) is

pub returns-clause-status : goal.returns-clause-status
returns-clause-status c = λ moment ops op bug place status is. said moment ops op bug place (kind.Status status) is

pub returns-clause-added : goal.returns-clause-added
returns-clause-added c = λ moment ops op bug place labels is. said moment ops op bug place (kind.AddLabels labels) is

pub returns-clause-removed : goal.returns-clause-removed
returns-clause-removed c = λ moment ops op bug place labels is. said moment ops op bug place (kind.RemoveLabels labels) is

pub returns-clause-comment : goal.returns-clause-comment
returns-clause-comment c = λ moment ops op bug place message is. (said moment ops op bug place (kind.Comment message) is).0

pub returns-clause-metadata : goal.returns-clause-metadata
returns-clause-metadata c = λ moment ops op bug place key value is. said moment ops op bug place (kind.Metadata key value) is

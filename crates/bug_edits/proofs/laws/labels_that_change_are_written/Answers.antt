use Rattle.std.proofs.Common.{false, sym, true}
use Rattle.bug_edits.specs.NewOps.{new_common}
use Rattle.bug_edits.specs.declared.edit.BugEdit.TheVariants as kind
use Rattle.bug_edits.proofs.EditLemmas.{made_by_row}
use Rattle.bug_edits.proofs.LabelLemmas.{where_has}
use Rattle.bug_edits.proofs.laws.labels_that_change_are_written.Goals as goal

pub returns-clause-adds : goal.returns-clause-adds
returns-clause-adds c = λ moment labels bug op is. (new_common moment 5, sym (made_by_row moment (kind.AddLabels labels) bug op is))

pub returns-clause-takes : goal.returns-clause-takes
returns-clause-takes c = λ moment labels bug op is. (new_common moment 5, sym (made_by_row moment (kind.RemoveLabels labels) bug op is))

pub returns-clause-off : goal.returns-clause-off
returns-clause-off c = where_has false

pub returns-clause-on : goal.returns-clause-on
returns-clause-on c = where_has true

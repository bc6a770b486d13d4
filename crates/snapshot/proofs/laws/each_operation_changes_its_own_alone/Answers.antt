use Rattle.snapshot.proofs.ActLemmas.{label_on, labels_alone, metadata_alone, status_alone, title_alone}
use Rattle.snapshot.proofs.laws.each_operation_changes_its_own_alone.Goals as goal

pub returns-clause-title : goal.returns-clause-title
returns-clause-title c = title_alone

pub returns-clause-status : goal.returns-clause-status
returns-clause-status c = status_alone

pub returns-clause-labels : goal.returns-clause-labels
returns-clause-labels c = labels_alone

pub returns-clause-on : goal.returns-clause-on
returns-clause-on c = label_on

pub returns-clause-metadata : goal.returns-clause-metadata
returns-clause-metadata c = metadata_alone

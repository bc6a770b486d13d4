use Rattle.snapshot.proofs.EditLemmas.{status_set, title_set}
use Rattle.snapshot.proofs.laws.what_was_set_last_holds.Goals as goal

pub returns-clause-title : goal.returns-clause-title
returns-clause-title c = title_set

pub returns-clause-status : goal.returns-clause-status
returns-clause-status c = status_set

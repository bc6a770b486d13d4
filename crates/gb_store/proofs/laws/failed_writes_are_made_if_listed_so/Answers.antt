use Rattle.gb_store.proofs.ReadLemmas.{failed_write-made, failed_write-unmade}
use Rattle.gb_store.proofs.laws.failed_writes_are_made_if_listed_so.Goals as goal

pub returns-clause-after : goal.returns-clause-after
returns-clause-after c = failed_write-made

pub returns-clause-before : goal.returns-clause-before
returns-clause-before c = failed_write-unmade

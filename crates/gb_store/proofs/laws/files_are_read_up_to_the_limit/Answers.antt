use Rattle.gb_store.proofs.ReadLemmas.{TellsFile-long, TellsFile-none, TellsFile-whole}
use Rattle.gb_store.proofs.laws.files_are_read_up_to_the_limit.Goals as goal

pub returns-clause-whole : goal.returns-clause-whole
returns-clause-whole c = TellsFile-whole

pub returns-clause-long : goal.returns-clause-long
returns-clause-long c = TellsFile-long

pub returns-clause-absent : goal.returns-clause-absent
returns-clause-absent c = TellsFile-none

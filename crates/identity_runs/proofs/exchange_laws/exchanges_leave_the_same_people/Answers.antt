use Rattle.identity_runs.proofs.WorldLemmas.{same_names, same_people}
use Rattle.identity_runs.proofs.exchange_laws.exchanges_leave_the_same_people.Goals as goal

pub returns-clause-heads : goal.returns-clause-heads
returns-clause-heads c = same_people

pub returns-clause-names : goal.returns-clause-names
returns-clause-names c = same_names

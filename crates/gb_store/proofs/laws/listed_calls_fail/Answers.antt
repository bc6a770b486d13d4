use Rattle.std.proofs.Common.{refl}
use Rattle.gb_store.proofs.ReadLemmas.{fail_at-listed, fail_at-other, faults-counted, faults-kept}
use Rattle.gb_store.proofs.laws.listed_calls_fail.Goals as goal

pub returns-clause-none : goal.returns-clause-none
returns-clause-none c = λ call. refl

pub returns-clause-listed : goal.returns-clause-listed
returns-clause-listed c = fail_at-listed

pub returns-clause-other : goal.returns-clause-other
returns-clause-other c = fail_at-other

pub returns-clause-counted : goal.returns-clause-counted
returns-clause-counted c = faults-counted

pub returns-clause-not_counted : goal.returns-clause-not_counted
returns-clause-not_counted c = faults-kept

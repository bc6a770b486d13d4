use Rattle.object_store.proofs.FaultLemmas.{holds_or_fails, not_both}
use Rattle.object_store.proofs.laws.a_name_holds_an_object_or_fails.Goals as goal

pub returns-clause-either : goal.returns-clause-either
returns-clause-either c = holds_or_fails

pub returns-clause-never_both : goal.returns-clause-never_both
returns-clause-never_both c = not_both
